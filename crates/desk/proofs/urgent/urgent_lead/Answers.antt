-- Question 6 of the order: behind the leading urgent records none is urgent.
-- Assumes nothing.
use Rattle.std.proofs.Common.{not, take, ap, sym, ◌∙◌, rules, tests}
use Rattle.std.proofs.lemmas.Iterator.Adapters.{YieldsList-from_skip_while}
use Rattle.std.proofs.lemmas.Iterator.Consumers.{YieldsList-from_first}
use Rattle.std.proofs.lemmas.Iterator.Search.{any_from_yields_List}
use Rattle.plan.specs.Accepted.{the_plan}
use Rattle.queue.specs.Waiting.{the_waiting}
use Rattle.queue.specs.Words.{records_in}
use Rattle.desk.specs.Queueing.{is_urgent}
use Rattle.desk.proofs.Priority.{lead_by_rest}
use Rattle.desk.proofs.urgent.urgent_lead.Goals as goal

pub returns : goal.returns
returns c =
    let u = is_urgent (the_plan c.args.plan.now) in
    let waiting = take c.args.waiting (records_in c.args.row.now) in
    ap not (any_from_yields_List u c.any.new.self _ c.any.result c.any.ensures.ran
    (YieldsList-from_skip_while _ (λ r. r) _ u _ (λ x b q k. search (rules, tests))
    (YieldsList-from_first (λ r. r) the_waiting waiting (ap the_waiting c.skip_while.ensures.source ∙ c.waiting_records.ensures))
    c.skip_while.ensures.closure c.skip_while.ensures.done_skipping) (λ x b q k. search (rules, tests)))
    ∙ sym (lead_by_rest u waiting)
