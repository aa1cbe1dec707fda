-- The step in a word by the word's kind, and the bound on a row that question 8 gives.
-- Assumes nothing.
use mathlib.Core.Path.{◌≡◌, refl, sym, subst}
use mathlib.Core.Bool.{Bool, true, false}
use mathlib.Core.List.{List}
use Prim.Native.Nat.{ℕ, ◌≤◌, ◌<◌}
use native.Mathlib.Omega.{arith}
use lib.Dec.{eqb}
use borrow.Author.Tests.{leb-true, le-leb, lt-leb, ne_eqb}
use Rattle.lists.proofs.Laws.{by_same}
use Rattle.word.specs.Field.{kind_of, table_field, column_field, row_source}
use Rattle.plan.specs.Plan.{Source, Action, reads, writes, Step, cell, operand, tells}
use Rattle.plan.specs.Decode.{row_of, operand_of, access_by, action_by, step_of}
use Rattle.operation.specs.Operation.{value_of}
use Rattle.operation.specs.Admission.{row_in_range}

pub step_reads : (w : ℕ) → kind_of w ≡ 3 → step_of w ≡ cell reads (table_field w) (column_field w) (row_of w)
unfolding step_of access_by
step_reads w e = simp e

pub step_writes_lem : (w : ℕ) → kind_of w ≡ 4 → step_of w ≡ cell writes (table_field w) (column_field w) (row_of w)
unfolding step_of access_by
step_writes_lem w e = simp e

pub step_tells : (w : ℕ) → kind_of w ≡ 13 → step_of w ≡ tells
unfolding step_of
step_tells w e = simp e

pub step_acts : (w : ℕ) → 4 < kind_of w → (kind_of w ≡ 13 → ⊥) → step_of w ≡ operand (action_by (kind_of w)) (operand_of w)
unfolding step_of
step_acts w h n = simp (lt-leb (kind_of w) 4 h, ne_eqb (kind_of w) 13 n)

-- a step of a kind above 4 names no cell: what holds of those that name none holds of it
pub step_above_4 : (P : Step → Type 0) (w : ℕ) → 4 < kind_of w → ((f : Action) (v : Source) → P (operand f v)) → P tells → P (step_of w)
step_above_4 P w h acts tell =
    by_same (kind_of w) 13 (λ e. subst P (sym (step_tells w e)) tell)
    (λ n. subst P (sym (step_acts w h n)) (acts (action_by (kind_of w)) (operand_of w)))

-- a fixed row has five bits, and one that is a parameter was asked
pub row_bound : (ps : List ℕ) (w : ℕ) → kind_of w ≤ 4 → row_in_range ps (step_of w) ≡ true → value_of ps (row_of w) ≤ 31
unfolding step_of row_in_range
row_bound ps w k r = go (eqb (row_source w) 7) refl
  where
    go : (b : Bool) → eqb (row_source w) 7 ≡ b → value_of ps (row_of w) ≤ 31
    go true e = simp e (omega arith)
    go false e = simp e (leb-true _ _ (simp (le-leb (kind_of w) 4 k, e) at r))
