-- Question 6 of the state: each answer is the branch of the definition that the tests before it chose.
-- Assumes nothing.
use Rattle.std.proofs.Common.{◌<◌, ◌%◌, [], sym, ap, ◌∙◌, arith}
use Rattle.verdict.specs.Verdict.{ask}
use Rattle.plan.specs.Accepted.{the_plan}
use Rattle.desk.proofs.QuestionSix.{desk_out, too_many, other_visit, by_state, no_record_waits}
use Rattle.desk.proofs.check.state_fits.Goals as goal

pub returns-then-desks-state : goal.returns-then-desks-state
returns-then-desks-state c =
    sym (ap (ask 6) (desk_out (the_plan c.args.plan.now) c.args.state []
    (rw (c.desks-desks.ensures.desks) at c.if-desks-state.true)))

pub returns-then-waiting-gt-QUEUE_SIZE : goal.returns-then-waiting-gt-QUEUE_SIZE
returns-then-waiting-gt-QUEUE_SIZE c =
    sym (ap (ask 6) (too_many (the_plan c.args.plan.now) c.args.state [] (omega arith)))

pub returns-then-state-desks : goal.returns-then-state-desks
returns-then-state-desks c =
    let desk : c.args.state.desk < (the_plan c.args.plan.now).desks = rw (c.desks-desks.ensures.desks) at c.if-desks-state.false in
    sym (ap (ask 6) (other_visit (the_plan c.args.plan.now) c.args.state [] desk (omega arith)
    (λ e. c.if-state-desks.true (ap (λ n. c.args.state.awaited % n) c.desks-desks.ensures.desks ∙ e))))

pub returns : goal.returns
returns c =
    let p = the_plan c.args.plan.now in
    let d = c.args.state in
    sym (ap (ask 6) (by_state p d [] _ c.desks-desks.ensures.desks c.if-desks-state.false (omega arith) c.if-state-desks.false
    ∙ no_record_waits p d.desk d.waiting))
