-- A run along the steps: what is still to run gives the whole outcome.
-- Assumes nothing.
use Rattle.plan.specs.Transaction.{the_transaction, the_steps}
use Rattle.execution.specs.Run.{run_transaction}
use Rattle.execution.specs.Answer.{update_of}
use Rattle.execution.proofs.Running.{Running}
use Rattle.execution.proofs.execution.run.Given as goal

abbrev pub invariant-loop-step : goal.invariant-loop-step
invariant-loop-step l =
    let outcome = run_transaction (the_transaction l.operation.transaction) l.params l.store in
    Running l.params outcome l.store (the_steps l.step-iterator) l.number l.told.items (update_of l.update)
