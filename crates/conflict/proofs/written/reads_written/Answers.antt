-- The walk over the plan asks of each step what the definition asks of each cell.
-- Assumes nothing.
use Rattle.std.proofs.Common.{◌∙◌, rules, tests}
use Rattle.std.specs.List.{list_any}
use Rattle.std.proofs.lemmas.Iterator.Consumers.{YieldsList-from_first}
use Rattle.std.proofs.lemmas.Iterator.Search.{any_from_yields_List}
use Rattle.plan.specs.Plan.{reads}
use Rattle.plan.specs.Accepted.{the_plan}
use Rattle.plan.specs.Transaction.{the_transaction, the_transactions}
use Rattle.operation.specs.Operation.{cells_named}
use Rattle.conflict.specs.Written.{step_writes}
use Rattle.conflict.proofs.WriteSteps.{walk_written}
use Rattle.conflict.proofs.written.reads_written.Goals as goal

pub returns : goal.returns
returns c =
    let o = c.args.operation.now in
    let cs = cells_named reads o.params (the_transaction o.transaction).steps in
    any_from_yields_List (λ t. list_any (λ s. list_any (step_writes s) cs) t.steps) c.any.new.self _ c.any.result c.any.ensures.ran
    (YieldsList-from_first the_transaction the_transactions _ c.transactions.ensures) (λ x b q k. search (rules, tests))
    ∙ walk_written (the_plan c.args.plan.now) cs
