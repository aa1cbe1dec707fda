-- Sets of rows as masks of 32 bits: whether one is empty, and the rows that a step can name.
-- Assumes nothing.
use mathlib.Core.Path.{◌≡◌, refl, sym, ◌∙◌, ap}
use mathlib.Core.Bool.{Bool, true, false, not, ◌||◌, cond}
use Prim.Native.Nat.{ℕ, zero, suc, ◌+◌, ◌-◌, ◌*◌, ◌^◌, ◌<◌}
use native.Mathlib.Nat.{zero-add, zero-mul}
use native.Mathlib.Omega.{arith}
use lib.Dec.{eqb, eqb→eq}
use lib.Pow.{pow_pos}
use borrow.Author.Tests.{ne_eqb}
use Rattle.lists.specs.Lists.{any_below}
use Rattle.lists.proofs.Laws.{below_at, any_below_more}
use Rattle.word.specs.Field.{row_source, fixed_row}
use Rattle.plan.specs.Plan.{param, fixed}
use Rattle.plan.specs.Decode.{row_of}
use Rattle.conflict.specs.Mask.{bit, mask_of}
use Rattle.conflict.specs.Written.{row_given}
use Rattle.partitioning.specs.Touched.{rows_of}

-- a set is empty exactly if no row is in it
pub mask_empty : (n : ℕ) (f : ℕ → Bool) → not (eqb (mask_of n f) 0) ≡ any_below n f
unfolding mask_of any_below
mask_empty zero f = refl
mask_empty (suc n) f = go (f n) (mask_empty n f) ∙ sym (any_below_more n f)
  where
    go : (b : Bool) → not (eqb (mask_of n f) 0) ≡ any_below n f → not (eqb (bit b * 2 ^ n + mask_of n f) 0) ≡ (b || any_below n f)
    go true h = ap not (ne_eqb (1 * 2 ^ n + mask_of n f) 0 (λ e. omega (arith, pow_pos n)))
    go false h = ap (λ (x : ℕ). not (eqb x 0)) (ap (λ (x : ℕ). x + mask_of n f) (zero-mul (2 ^ n)) ∙ zero-add (mask_of n f)) ∙ h

-- ---- the rows of a step

abbrev one_test : ℕ → Bool
one_test v = eqb (2 ^ v) (mask_of 32 (λ r. eqb r v))

one_row : (v : ℕ) → v < 32 → 2 ^ v ≡ mask_of 32 (λ r. eqb r v)
unfolding mask_of
one_row v h = eqb→eq _ _ (below_at 32 one_test tt v h)

pub all_rows : 2 ^ 32 - 1 ≡ mask_of 32 (λ r. true)
unfolding mask_of
all_rows = refl

pub rows_mask_lem : (w : ℕ) → rows_of w ≡ mask_of 32 (row_given (row_of w))
rows_mask_lem w = go (eqb (row_source w) 7)
  where
    go : (b : Bool) → cond b (2 ^ fixed_row w) (2 ^ 32 - 1) ≡ mask_of 32 (row_given (cond b (fixed (fixed_row w)) (param (row_source w))))
    go true = one_row (fixed_row w) (omega arith)
    go false = all_rows
