-- The rows of an operation's steps are in range: question 8.
-- Assumes nothing.
use Rattle.lists.proofs.Laws.{and_snd}
use Rattle.plan.specs.Step.{access_from}
use Rattle.plan.specs.Transaction.{the_transaction}
use Rattle.operation.specs.Admission.{parameters_pass, unused_zero}
use Rattle.operation.proofs.CellSteps.{cells_in_store}
use Rattle.operation.proofs.operation.Operation.cells.Goals as goal

pub invariant_of-result : goal.invariant_of-result
unfolding parameters_pass
invariant_of-result c =
    let o = c.args.self.now in
    record {
      in_store = rw c.steps.ensures (cells_in_store (access_from c.args.access) o.params o.transaction.step_words.now
          (and_snd (unused_zero (the_transaction o.transaction).params o.params) _ o.passes));
    }
