-- Going by cases on two numbers, and what is left of a number.
-- Assumes nothing.
use Prim.Native.Nat.{ℕ, suc, ◌+◌, ◌-◌, ◌≤◌, ◌<◌}
use mathlib.Core.Path.{◌≡◌}
use mathlib.Core.Logic.{◌≢◌, ⊎_elim}
use native.Mathlib.Omega.{arith}
use Rattle.std.proofs.lemmas.Bool.{cases_eq, cases_lt}

-- by cases, the numbers first: so each case's λ knows what it is given
pub by_same : {C : Type 0} (a b : ℕ) → (a ≡ b → C) → (a ≢ b → C) → C
by_same a b f g = ⊎_elim f g (cases_eq a b)

pub by_less : {C : Type 0} (a b : ℕ) → (a < b → C) → (b ≤ a → C) → C
by_less a b f g = ⊎_elim f g (cases_lt a b)

-- what is left of n, past one more
pub left_suc : (n k : ℕ) → k < n → n - k ≡ suc (n - (k + 1))
left_suc n k h = omega arith
