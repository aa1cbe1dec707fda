-- Masks as numbers: `|` joins them, `&` meets them.
-- Assumes nothing.
use mathlib.Core.Path.{◌≡◌, refl, ◌∙◌, sym, ap, ap₂, fun_ext}
use mathlib.Core.Bool.{Bool, true, false, ◌&&◌, ◌||◌}
use mathlib.Core.Logic.{◌⊎◌, inl, inr}
use Prim.Native.Nat.{ℕ, zero, suc, ◌+◌, ◌-◌, ◌*◌, ◌/◌, ◌%◌, ◌^◌, ◌≤◌, ◌<◌, max}
use native.Mathlib.Nat.{pow-suc, zero-mul, not-suc-le-zero, le_of_suc-le-suc, eq-or-lt_of_le, add_comm, mul_assoc}
use native.Mathlib.Nat.{div-eq_of_lt, add-mul-div_right}
use native.Mathlib.Omega.{arith}
use lib.Arith.{bin_ind}
use lib.Bits.{bit_and, and_block, and_self, and_zero_l, and_zero_r, bit_or, or_step, or_zero_l, or_zero_r, or_self, or_block}
use lib.Pow.{pow_pos, pow_mono, pow-add, high}
use lib.Dec.{eqb}
use Rattle.conflict.specs.Mask.{bit, mask_of, in_mask}

pub mask_ext : (n : ℕ) (f g : ℕ → Bool) → ((d : ℕ) → f d ≡ g d) → mask_of n f ≡ mask_of n g
mask_ext n f g h = ap (mask_of n) (fun_ext h)

pub mask_same : (n : ℕ) (f g : ℕ → Bool) → ((r : ℕ) → r < n → f r ≡ g r) → mask_of n f ≡ mask_of n g
unfolding mask_of
mask_same zero f g h = refl
mask_same (suc n) f g h = ap₂ (λ (b : Bool) (x : ℕ). bit b * 2 ^ n + x) (h n (omega arith)) (mask_same n f g (λ r l. h r (omega arith)))

pub mask_none : (n : ℕ) → mask_of n (λ d. false) ≡ 0
unfolding mask_of
mask_none zero = refl
mask_none (suc n) = ap₂ ◌+◌ (zero-mul (2 ^ n)) (mask_none n)

pub mask_lt : (n : ℕ) (f : ℕ → Bool) → mask_of n f < 2 ^ n
unfolding mask_of
mask_lt zero f = omega arith
mask_lt (suc n) f = go (f n) (mask_lt n f)
  where
    go : (b : Bool) → mask_of n f < 2 ^ n → bit b * 2 ^ n + mask_of n f < 2 ^ suc n
    go true h = omega (arith, pow-suc 2 n)
    go false h = omega (arith, pow-suc 2 n)

or_bit : (a b : Bool) → bit_or (bit a) (bit b) ≡ bit (a || b)
or_bit true true = or_self 1
or_bit true false = or_zero_r 1
or_bit false b = or_zero_l (bit b)

pub mask_or : (n : ℕ) (f g : ℕ → Bool) → bit_or (mask_of n f) (mask_of n g) ≡ mask_of n (λ d. f d || g d)
unfolding mask_of
mask_or zero f g = refl
mask_or (suc n) f g =
    or_block n (bit (f n)) (bit (g n)) (mask_of n f) (mask_of n g) (mask_lt n f) (mask_lt n g)
    ∙ ap₂ (λ (x y : ℕ). x * 2 ^ n + y) (or_bit (f n) (g n)) (mask_or n f g)

-- ---- `&` of two

and_bit : (a b : Bool) → bit_and (bit a) (bit b) ≡ bit (a && b)
and_bit true true = and_self 1
and_bit true false = and_zero_r 1
and_bit false b = and_zero_l (bit b)

pub mask_and : (n : ℕ) (f g : ℕ → Bool) → bit_and (mask_of n f) (mask_of n g) ≡ mask_of n (λ r. f r && g r)
unfolding mask_of
mask_and zero f g = refl
mask_and (suc n) f g =
    and_block n (bit (f n)) (bit (g n)) (mask_of n f) (mask_of n g) (mask_lt n f) (mask_lt n g)
    ∙ ap₂ (λ (x y : ℕ). x * 2 ^ n + y) (and_bit (f n) (g n)) (mask_and n f g)

-- ---- more of `|`

-- `|` is associative: by its lowest digit and the rest
or_low : (a b : ℕ) → bit_or a b % 2 ≡ max (a % 2) (b % 2)
or_low a b = omega (arith, or_step a b)

or_half : (a b : ℕ) → bit_or a b / 2 ≡ bit_or (a / 2) (b / 2)
or_half a b = omega (arith, or_step a b)

pub bits_assoc : (a b c : ℕ) → bit_or (bit_or a b) c ≡ bit_or a (bit_or b c)
bits_assoc =
    bin_ind (λ (a : ℕ). (b c : ℕ) → bit_or (bit_or a b) c ≡ bit_or a (bit_or b c))
    (λ b c. ap (λ (x : ℕ). bit_or x c) (or_zero_l b) ∙ sym (or_zero_l (bit_or b c)))
    (λ a ih b c. omega (
      arith,
      or_step (bit_or a b) c,
      or_step a (bit_or b c),
      ap (λ (x : ℕ). bit_or x (c / 2)) (or_half a b),
      ap (λ (x : ℕ). bit_or (a / 2) x) (or_half b c),
      ih (b / 2) (c / 2),
      or_low a b,
      or_low b c,
    ))

-- what was there, joined with a mask of two parts, is joined with one part and then with the other
pub mask_split : (x n : ℕ) (f g : ℕ → Bool) → bit_or x (mask_of n (λ d. f d || g d)) ≡ bit_or (bit_or x (mask_of n f)) (mask_of n g)
mask_split x n f g = ap (bit_or x) (sym (mask_or n f g)) ∙ sym (bits_assoc x (mask_of n f) (mask_of n g))

-- ---- a desk's digit in a mask

shifted_even : (b k d r : ℕ) → (b * (2 ^ suc k * 2 ^ d) + r) / 2 ^ d % 2 ≡ r / 2 ^ d % 2
shifted_even b k d r =
    ap (λ (x : ℕ). x / 2 ^ d % 2) (add_comm (b * (2 ^ suc k * 2 ^ d)) r ∙ ap (λ (x : ℕ). r + x) (sym (mul_assoc b (2 ^ suc k) (2 ^ d))))
    ∙ ap (λ (x : ℕ). x % 2) (add-mul-div_right r (b * 2 ^ suc k) (pow_pos d))
    ∙ omega (arith, ap (λ (x : ℕ). b * x) (pow-suc 2 k), mul_assoc b (2 ^ k) 2)

pub mask_bit : (n : ℕ) (f : ℕ → Bool) (d : ℕ) → d < n → mask_of n f / 2 ^ d % 2 ≡ bit (f d)
unfolding mask_of
mask_bit zero f d h = absurd (not-suc-le-zero h)
mask_bit (suc n) f d h = go (eq-or-lt_of_le (le_of_suc-le-suc h)) (λ l. mask_bit n f d l)
  where
    small : (b : Bool) → bit b % 2 ≡ bit b
    small true = refl
    small false = refl

    go : (d ≡ n) ⊎ (d < n) → (d < n → mask_of n f / 2 ^ d % 2 ≡ bit (f d)) → (bit (f n) * 2 ^ n + mask_of n f) / 2 ^ d % 2 ≡ bit (f d)
    go (inl e) r =
        rw e (ap (λ (x : ℕ). x % 2) (high (bit (f n)) n (mask_lt n f)) ∙ small (f n))
    go (inr l) r =
        let k = n - (d + 1) in
        let e : n ≡ suc k + d = omega arith in
        ap (λ (x : ℕ). (bit (f n) * x + mask_of n f) / 2 ^ d % 2) (ap (λ (m : ℕ). 2 ^ m) e ∙ pow-add 2 (suc k) d)
        ∙ shifted_even (bit (f n)) k d (mask_of n f) ∙ r l

pub in_mask_of : (n : ℕ) (f : ℕ → Bool) (d : ℕ) → d < n → in_mask (mask_of n f) d ≡ f d
unfolding in_mask
in_mask_of n f d h = ap (λ (x : ℕ). eqb x 1) (mask_bit n f d h) ∙ one (f d)
  where
    one : (b : Bool) → eqb (bit b) 1 ≡ b
    one true = refl
    one false = refl

pub in_mask_past : (n : ℕ) (f : ℕ → Bool) (d : ℕ) → n ≤ d → in_mask (mask_of n f) d ≡ false
unfolding in_mask
in_mask_past n f d h =
    let small : mask_of n f < 2 ^ d = omega (arith, mask_lt n f, pow_mono h) in
    ap (λ (x : ℕ). eqb (x % 2) 1) (div-eq_of_lt small)
