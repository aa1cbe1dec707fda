-- Whether an operation of a desk, of one transaction, may touch a cell: the test of each step is that of the definition.
-- Assumes nothing.
use Rattle.std.proofs.Common.{rules, tests}
use Rattle.std.proofs.lemmas.Iterator.Consumers.{YieldsList-from_first}
use Rattle.std.proofs.lemmas.Iterator.Search.{any_from_yields_List}
use Rattle.plan.specs.Step.{step_from}
use Rattle.plan.specs.Transaction.{the_steps, the_transaction}
use Rattle.conflict.specs.Touch.{step_touches}
use Rattle.conflict.proofs.cause.transaction_touches.Goals as goal

pub returns : goal.returns
returns c =
    any_from_yields_List (λ s. step_touches c.args.desks (the_transaction c.args.transaction.now).part s c.args.cell c.args.desk)
    c.any.new.self _ c.any.result c.any.ensures.ran
    (YieldsList-from_first step_from the_steps _ c.steps.ensures) (λ x b q k. search (rules, tests))
