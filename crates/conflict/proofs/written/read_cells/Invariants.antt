-- The cells that an operation may read: those collected, and behind them those to come.
-- Assumes nothing.
use Rattle.std.proofs.Common.{◌≡◌, ◌++◌}
use Rattle.plan.specs.Plan.{reads}
use Rattle.plan.specs.Transaction.{the_transaction}
use Rattle.operation.specs.Operation.{cells_named}
use Rattle.operation.specs.Cells.{the_cells}
use Rattle.conflict.proofs.written.read_cells.Given as goal

abbrev pub invariant-loop-cell : goal.invariant-loop-cell
invariant-loop-cell l =
    l.cells.items ++ the_cells l.cell-iterator ≡ cells_named reads l.operation.params (the_transaction l.operation.transaction).steps
