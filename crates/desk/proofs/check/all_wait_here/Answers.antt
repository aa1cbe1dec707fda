-- Question 6 of each record that waits.
-- Assumes nothing.
use Rattle.std.proofs.Common.{rules, tests}
use Rattle.std.proofs.lemmas.Iterator.Consumers.{YieldsList-from_first}
use Rattle.std.proofs.lemmas.Iterator.Search.{all_from_yields_List}
use Rattle.plan.specs.Accepted.{the_plan}
use Rattle.queue.specs.Waiting.{the_waiting}
use Rattle.desk.specs.Admission.{waits_here}
use Rattle.desk.proofs.check.all_wait_here.Goals as goal

pub returns : goal.returns
returns c =
    all_from_yields_List (waits_here (the_plan c.args.masks.now.plan) c.args.desk) c.all.new.self _ c.all.result c.all.ensures.ran
    (YieldsList-from_first (λ r. r) the_waiting _ c.waiting_records.ensures) (λ x b q k. search (rules, tests))
