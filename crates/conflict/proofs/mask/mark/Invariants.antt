-- One step's cells, joined row by row into the table.
-- Assumes nothing.
use Rattle.plan.specs.Step.{part_from, source_from}
use Rattle.conflict.proofs.Marks.{Marked}
use Rattle.conflict.proofs.mask.mark.Given as goal

abbrev pub invariant-loop-row : goal.invariant-loop-row
invariant-loop-row l = Marked l.desks (part_from l.partitioning) l.table l.column (source_from l.source) l.initial.masks l.masks l.row
