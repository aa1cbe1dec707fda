-- What a step touches, by the cell that it can name and by the desks of that row.
-- Assumes nothing.
use mathlib.Core.Path.{◌≡◌, refl, ◌∙◌, sym, ap}
use mathlib.Core.Bool.{Bool, true, false, ◌&&◌, false≢true}
use Prim.Native.Nat.{ℕ, ◌/◌, ◌%◌, ◌<◌}
use lib.Dec.{eqb}
use Rattle.plan.specs.Plan.{Source, param, fixed, Access, cell, Partitioning, by_param, unpartitioned, undecided}
use Rattle.conflict.specs.Mask.{mask_of, in_mask}
use Rattle.conflict.specs.Touch.{row_touched, cell_touched, step_touches}
use Rattle.conflict.specs.Written.{row_given, cell_given}
use Rattle.conflict.proofs.Masks.{in_mask_of}
use Rattle.conflict.proofs.Marks.{names_none}

-- a row that no operation gives is touched by no desk
pub row_not_given : (n : ℕ) (q : Partitioning) (r : Source) (row d : ℕ) → row_given r row ≡ false → row_touched n q r row d ≡ false
unfolding row_touched
row_not_given n q (param i) row d e = absurd (false≢true (sym e))
row_not_given n (by_param q) (fixed v) row d e = rw e
row_not_given n unpartitioned (fixed v) row d e = rw e
row_not_given n undecided (fixed v) row d e = rw e

cell_by_given : (n : ℕ) (q : Partitioning) (t k : ℕ) (r : Source) (c d : ℕ)
    → cell_touched n q t k r c d ≡ (cell_given t k r c && row_touched n q r (c / 4 % 32) d)
unfolding cell_touched cell_given
cell_by_given n q t k r c d = go (eqb (c / 128) t) (eqb (c % 4) k) (row_given r (c / 4 % 32)) refl
  where
    go : (a b g : Bool) → row_given r (c / 4 % 32) ≡ g
        → (a && (b && row_touched n q r (c / 4 % 32) d)) ≡ ((a && (b && g)) && row_touched n q r (c / 4 % 32) d)
    go true true true e = refl
    go true true false e = row_not_given n q r (c / 4 % 32) d e
    go true false g e = refl
    go false b g e = refl

-- a step with this table, column and row
module _ (n : ℕ) (q : Partitioning) (a : Access) (t k : ℕ) (r : Source) (c d : ℕ) where
  pub not_given_touches : cell_given t k r c ≡ false → step_touches n q (cell a t k r) c d ≡ false
  unfolding step_touches
  not_given_touches e = cell_by_given n q t k r c d ∙ rw e

  pub given_touches : cell_given t k r c ≡ true → d < n → (m : ℕ) → m ≡ mask_of n (row_touched n q r (c / 4 % 32))
      → in_mask m d ≡ step_touches n q (cell a t k r) c d
  unfolding step_touches
  given_touches e h m i =
      ap (λ (x : ℕ). in_mask x d) i ∙ in_mask_of n (row_touched n q r (c / 4 % 32)) d h ∙ sym (cell_by_given n q t k r c d ∙ rw e)

-- what the search for a step's touch needs
pub ruleset touches = (names_none, not_given_touches, given_touches)
