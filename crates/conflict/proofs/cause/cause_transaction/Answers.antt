-- The lowest transaction of a desk that may touch a cell: the first place that passes.
-- Assumes nothing.
use Rattle.std.proofs.Common.{◌∙◌, ap, length, inl, arith, rules, tests}
use Rattle.std.proofs.lemmas.Iterator.Consumers.{YieldsList-from_first}
use Rattle.std.proofs.lemmas.Iterator.Search.{position_from_yields_List}
use Rattle.plan.specs.Plan.{Transaction, no_transaction}
use Rattle.plan.specs.Accepted.{the_plan}
use Rattle.plan.specs.Transaction.{the_transaction, the_transactions}
use Rattle.conflict.specs.Touch.{steps_touch}
use Rattle.conflict.specs.Cause.{if_below, cause_transaction}
use Rattle.conflict.proofs.Touching.{few_transactions}
use Rattle.conflict.proofs.Lowest.{position_lowest}
use Rattle.conflict.proofs.cause.cause_transaction.Goals as goal

pub returns : goal.returns
unfolding cause_transaction
returns c =
    let p = the_plan c.args.plan.now in
    let test = λ (t : Transaction). steps_touch p.desks t.part t.steps c.args.cell c.args.desk in
    position_from_yields_List test c.position.new.self _ c.position.result c.position.ensures.ran
    (YieldsList-from_first the_transaction the_transactions _ c.transactions.ensures) (λ x b q k. search (rules, tests))
    ∙ ap (if_below (length p.transactions)) (position_lowest test p.transactions no_transaction)

pub position-requires-clause-fits : goal.position-requires-clause-fits
position-requires-clause-fits c =
    inl (omega (arith, ap length c.transactions.ensures, few_transactions _ c.args.plan.now.accepted))
