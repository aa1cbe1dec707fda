-- The open fields, filled where they stand: the plan at hand, with the words still to come filled, is the whole plan filled.
-- Assumes nothing.
use lib.ListN.{length}
use Rattle.partitioning.specs.Best.{filled_by}
use Rattle.partitioning.proofs.FillWalk.{FilledTo}
use Rattle.partitioning.proofs.filling.fill.Given as goal

abbrev pub invariant-loop-word : goal.invariant-loop-word
invariant-loop-word l =
    FilledTo (length l.initial.plan) (filled_by l.initial.plan l.initial.left.number) l.plan l.word-index l.left.fillings l.left.number
