-- The masks of a row, as shifts give them: each is proved by a test that antt computes over all numbers of desks.
-- Assumes nothing.
use mathlib.Core.Path.{◌≡◌, ◌∙◌, sym, ap, refl}
use mathlib.Core.Bool.{Bool, true, false, ◌||◌, false≢true}
use mathlib.Core.Logic.{◌⊎◌, inl, inr}
use native.Mathlib.Nat.{mod-lt}
use Prim.Native.Nat.{ℕ, ◌-◌, ◌*◌, ◌/◌, ◌%◌, ◌^◌, ◌≤◌, ◌<◌}
use native.Mathlib.Omega.{arith}
use lib.Dec.{T, ltb, leb, eqb, eqb→eq}
use borrow.Author.Tests.{ne_eqb, lt-leb}
use Rattle.std.proofs.lemmas.Bool.{eq-eqb}
use Rattle.lists.proofs.Laws.{below, below_at}
use Rattle.plan.specs.Plan.{Source, param, fixed, Partitioning, by_param, unpartitioned, undecided}
use Rattle.conflict.specs.Mask.{mask_of}
use Rattle.conflict.specs.Touch.{row_touched}
use Rattle.conflict.specs.Written.{row_given}
use Rattle.conflict.proofs.Masks.{mask_ext, mask_none}
use Rattle.conflict.proofs.GivenCells.{row_not_given}

or_second : (a b : Bool) → a ≡ false → T (a || b) → T b
or_second true b e t = absurd (false≢true (sym e))
or_second false b e t = t

-- desk 0 alone, all desks below n, and one desk below n
abbrev zero_test : ℕ → Bool
zero_test n = leb n 0 || eqb 1 (mask_of n (λ d. eqb d 0))

abbrev all_test : ℕ → Bool
all_test n = eqb (255 / 2 ^ (8 - n)) (mask_of n (λ d. ltb d n))

abbrev own_test : ℕ → ℕ → Bool
own_test n r = leb n r || eqb (1 * 2 ^ r % 256) (mask_of n (λ d. eqb d r))

pub zero_law : (n : ℕ) → 1 ≤ n → n ≤ 8 → 1 ≡ mask_of n (λ d. eqb d 0)
unfolding mask_of
zero_law n lo hi = eqb→eq _ _ (or_second (leb n 0) (eqb 1 (mask_of n (λ d. eqb d 0))) (lt-leb n 0 (omega arith))
    (below_at 9 zero_test tt n (omega arith)))

all_law : (n : ℕ) → n ≤ 8 → 255 / 2 ^ (8 - n) ≡ mask_of n (λ d. ltb d n)
unfolding mask_of
all_law n hi = eqb→eq _ _ (below_at 9 all_test tt n (omega arith))

own_law : (n r : ℕ) → n ≤ 8 → r < n → 1 * 2 ^ r % 256 ≡ mask_of n (λ d. eqb d r)
unfolding mask_of
own_law n r hi h =
    eqb→eq _ _
    (or_second (leb n r) (eqb (1 * 2 ^ r % 256) (mask_of n (λ d. eqb d r))) (lt-leb n r h)
    (below_at 8 (own_test n) (below_at 9 (λ n. below 8 (own_test n)) tt n (omega arith)) r (omega arith)))

-- ---- what a row's mask is, by the source and the partitioning

-- no operation gives the row
pub not_given_mask : (n : ℕ) (q : Partitioning) (r : Source) (row : ℕ) → row_given r row ≡ false → 0 ≡ mask_of n (row_touched n q r row)
not_given_mask n q r row e = sym (mask_ext n (row_touched n q r row) (λ d. false) (λ d. row_not_given n q r row d e) ∙ mask_none n)

-- with no partitioning, or an open one: desk 0
pub desk_0_mask : (n : ℕ) → 1 ≤ n → n ≤ 8 → (q : Partitioning) → (q ≡ unpartitioned) ⊎ (q ≡ undecided) → (r : Source) (row : ℕ)
    → row_given r row ≡ true → 1 ≡ mask_of n (row_touched n q r row)
unfolding row_touched
desk_0_mask n lo hi q (inl e) (param i) row g = rw e (zero_law n lo hi)
desk_0_mask n lo hi q (inl e) (fixed v) row g = rw e (zero_law n lo hi ∙ mask_ext n _ _ (λ d. simp g))
desk_0_mask n lo hi q (inr e) (param i) row g = rw e (zero_law n lo hi)
desk_0_mask n lo hi q (inr e) (fixed v) row g = rw e (zero_law n lo hi ∙ mask_ext n _ _ (λ d. simp g))

-- the row is the partitioning parameter
pub own_mask : (n : ℕ) → 1 ≤ n → n ≤ 8 → (q : Partitioning) (i : ℕ) → q ≡ by_param i → (r : Source) → r ≡ param i → (row : ℕ)
    → 1 * 2 ^ (row % n) % 256 ≡ mask_of n (row_touched n q r row)
unfolding row_touched
own_mask n lo hi q i e r f row = rw (e, f) (own_law n (row % n) hi (mod-lt row lo) ∙ mask_ext n _ _ (λ d. simp (eq-eqb i i refl)))

-- it is another, or fixed
pub all_mask : (n : ℕ) → n ≤ 8 → (q : Partitioning) (i : ℕ) → q ≡ by_param i → (r : Source) → (r ≡ param i → ⊥) → (row : ℕ)
    → row_given r row ≡ true → 255 / 2 ^ (8 - n) ≡ mask_of n (row_touched n q r row)
unfolding row_touched
all_mask n hi q i e (param j) f row g =
    rw e (all_law n hi ∙ mask_ext n _ _ (λ d. simp (ne_eqb j i (λ h. f (ap param h)))))
all_mask n hi q i e (fixed v) f row g = rw e (all_law n hi ∙ mask_ext n _ _ (λ d. simp g))

-- what the search for the mask of a row needs
pub ruleset row_masks = (not_given_mask, desk_0_mask, own_mask, all_mask)
