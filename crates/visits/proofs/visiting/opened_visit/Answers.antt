-- The visit behind questions 1 to 6 and 17: refused with the number of the first question whose answer is no, or left as a visit that
-- passes leaves it.
-- Assumes nothing.
use mathlib.Core.Path.{◌≡◌, ◌∙◌, sym, ap}
use Rattle.verdict.specs.Verdict.{accepted, refused, verdict_of}
use Rattle.queue.specs.Words.{queue_in}
use Rattle.desk.specs.Holding.{holding}
use Rattle.visits.specs.Visit.{visit_verdict}
use Rattle.visits.proofs.Questions.{questions_give, snapshot_long}
use Rattle.visits.proofs.Visited.{by_opened, opened_no, refused_leaves, on_records, accepted_leaves}
use Rattle.visits.proofs.visiting.opened_visit.Goals as goal

pub take_snapshot-requires-clause-lengths : goal.take_snapshot-requires-clause-lengths
take_snapshot-requires-clause-lengths c =
    let a = c.args in
    let passes : visit_verdict a.plan.now.words.now (holding a.state a.cells.now (queue_in a.row.now)) a.snapshot.now a.frame.now a.out.now
    a.replies.now ≡ accepted =
    by_opened _ _ _ _ _ _ _ _ accepted accepted (ap verdict_of (sym c.in-Ok.is) ∙ c.requires.verdict) c.in-Ok-ask_frame.ensures.verdict in
    ((questions_give _ _ _ _ _ _ passes).cells_long, snapshot_long _ _ _ _ _ _ passes)

pub accepted_visit-requires : goal.accepted_visit-requires
accepted_visit-requires c =
    let a = c.args in
    let passes : visit_verdict a.plan.now.words.now (holding a.state a.cells.now (queue_in a.row.now)) a.snapshot.now a.frame.now a.out.now
    a.replies.now ≡ accepted =
    by_opened _ _ _ _ _ _ _ _ accepted accepted (ap verdict_of (sym c.in-Ok.is) ∙ c.requires.verdict) c.in-Ok-ask_frame.ensures.verdict in
    rw c.in-Ok-ask_frame.ensures.frame (on_records _ _ _ _ _ _ _ _ passes)

pub returns-in-Ok-ask_frame : goal.returns-in-Ok-ask_frame
returns-in-Ok-ask_frame c =
    let a = c.args in
    let passes : visit_verdict a.plan.now.words.now (holding a.state a.cells.now (queue_in a.row.now)) a.snapshot.now a.frame.now a.out.now
    a.replies.now ≡ accepted =
    by_opened _ _ _ _ _ _ _ _ accepted accepted (ap verdict_of (sym c.in-Ok.is) ∙ c.requires.verdict) c.in-Ok-ask_frame.ensures.verdict in
    rw c.in-Ok-ask_frame.ensures.frame at c.accepted_visit.ensures _
    ∙ accepted_leaves _ _ _ _ _ _ _ _ passes _ c.take_snapshot.ensures

pub returns-in-Err-ask_frame : goal.returns-in-Err-ask_frame
returns-in-Err-ask_frame c =
    refused_leaves _ _ _ _ _ _ _ _ _ (by_opened _ _ _ _ _ _ _ _ accepted (refused _)
    (ap verdict_of (sym c.in-Ok.is) ∙ c.requires.verdict) c.in-Err-ask_frame.ensures.verdict)

pub returns-in-Err : goal.returns-in-Err
returns-in-Err c =
    refused_leaves _ _ _ _ _ _ _ _ _ (opened_no _ _ _ _ _ _ _ _ _ (ap verdict_of (sym c.in-Err.is) ∙ c.requires.verdict))
