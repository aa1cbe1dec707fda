-- A transaction that does not exist is not urgent.
-- Assumes nothing.
use Rattle.std.proofs.Common.{◌∙◌, sym, ap}
use Rattle.std.specs.Option.{option_map}
use Rattle.plan.specs.Plan.{Transaction, no_transaction}
use Rattle.plan.specs.Accepted.{the_plan}
use Rattle.plan.specs.Transaction.{the_transaction}
use Rattle.desk.proofs.Asked.{none_past}
use Rattle.desk.proofs.urgent.is_urgent.Goals as goal

pub returns-in-None : goal.returns-in-None
returns-in-None c =
    let ts = (the_plan c.args.plan.now).transactions in
    sym (ap (λ (t : Transaction). t.urgent) (none_past ts c.args.request.now.transaction no_transaction
    (sym c.transaction.ensures ∙ ap (option_map the_transaction) c.in-None.is)))
