-- The store as the pairs passed by left it: those still to come make the whole of it.
-- Assumes nothing.
use Rattle.std.proofs.Common.{◌≡◌, drop}
use Rattle.operation.specs.Store.{apply_update}
use Rattle.execution.specs.Answer.{update_of}
use Rattle.execution.proofs.execution.apply.Given as goal

abbrev pub invariant-loop-cell : goal.invariant-loop-cell
invariant-loop-cell l = apply_update (drop l.cell-index (update_of l.update)) l.store ≡ apply_update (update_of l.update) l.initial.store
