-- A mask, of desks or of rows, as a number.
use Rattle.std.specs.Prelude.{ℕ, zero, suc, ◌+◌, ◌*◌, ◌/◌, ◌%◌, ◌^◌, Bool, true, false, eqb}

abbrev pub bit : Bool → ℕ
bit true = 1
bit false = 0

-- the sum of 2 ^ d over the d below n at which f holds
unfoldable pub mask_of : ℕ → (ℕ → Bool) → ℕ
mask_of zero f = 0
mask_of (suc n) f = bit (f n) * 2 ^ n + mask_of n f

-- digit d of the mask is 1
unfoldable pub in_mask : ℕ → ℕ → Bool
in_mask mask d = eqb (mask / 2 ^ d % 2) 1
