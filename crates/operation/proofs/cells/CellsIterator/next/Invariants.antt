-- The steps passed by name no cell of this access.
-- Assumes nothing.
use Rattle.std.proofs.Common.{◌≡◌, length}
use Rattle.plan.specs.Step.{access_from}
use Rattle.plan.specs.Transaction.{the_steps}
use Rattle.operation.specs.Operation.{cells_named}
use Rattle.operation.proofs.cells.CellsIterator.next.Given as goal

abbrev pub invariant-loop-step : goal.invariant-loop-step
invariant-loop-step l =
    cells_named (access_from l.access) l.params (the_steps l.steps)
    ≡ cells_named (access_from l.access) l.params (the_steps l.initial.steps)

abbrev pub decreases-loop-step : goal.decreases-loop-step
decreases-loop-step l = length (the_steps l.steps)
