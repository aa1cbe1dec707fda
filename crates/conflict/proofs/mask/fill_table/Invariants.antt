-- The mask table: what is in it, joined with what is still to come, is the mask of each cell.
-- Assumes nothing.
use Rattle.plan.specs.Step.{part_from}
use Rattle.plan.specs.Transaction.{the_steps, the_transactions}
use Rattle.conflict.proofs.Filling.{Filling, FillingIn}
use Rattle.conflict.proofs.mask.fill_table.Given as goal

abbrev pub invariant-loop-step : goal.invariant-loop-step
invariant-loop-step l =
    FillingIn l.plan.words.now l.desks (part_from l.partitioning) (the_steps l.step-iterator)
    (the_transactions l.transaction-iterator) l.masks

abbrev pub invariant-loop-transaction : goal.invariant-loop-transaction
invariant-loop-transaction l = Filling l.plan.words.now l.desks (the_transactions l.transaction-iterator) l.masks
