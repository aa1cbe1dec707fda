-- One step's cells, joined row by row into the table.
-- Assumes nothing.
use Rattle.conflict.proofs.Marks.{names_none, marks_none, marked_none, marked_all, marked_more}
use Rattle.conflict.proofs.mask.mark.Goals as goal

pub loop-row-init : goal.loop-row-init
loop-row-init c = marked_none _ _ _ _ _ _ c.requires.2

pub loop-row-preserved : goal.loop-row-preserved
loop-row-preserved c =
    marked_more _ _ _ _ _ (rw c.in-Cell.is at c.requires.3) _ c.loop-row-test.true _ _ _ c.row_mask.ensures c.loop-row.invariant

pub returns-after-loop-row : goal.returns-after-loop-row
returns-after-loop-row c = rw c.in-Cell.is (marked_all _ _ _ _ _ _ _ _ c.loop-row-test.false c.loop-row.invariant _)

pub returns-in_default : goal.returns-in_default
returns-in_default c = marks_none _ _ _ _ c.requires.2 (λ k d. names_none _ (λ a t k r e. c.in_default.not-Cell a t k r e) _ _ k d)
