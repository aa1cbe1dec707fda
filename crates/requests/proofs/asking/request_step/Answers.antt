-- The request: refused with the number of the first question of its plan whose answer is no, or left as that of an accepted plan.
-- Assumes nothing.
use Rattle.std.proofs.Common.{◌∙◌, sym, ap, List, ℕ}
use Rattle.plan.specs.Decode.{plan_of}
use Rattle.queue.specs.Words.{queue_in}
use Rattle.queue.proofs.RowsLeft.{row_left_queue_in}
use Rattle.desk.specs.Holding.{holding}
use Rattle.requests.specs.declared.answer.RequestResult.{RequestResult}
use Rattle.requests.specs.Request.{request_result}
use Rattle.requests.specs.Answer.{response_of, requested_of}
use Rattle.requests.specs.Step.{store_from}
use Rattle.requests.proofs.Handed.{plan_refused}
use Rattle.requests.proofs.Stored.{left_by_verdict}
use Rattle.requests.proofs.asking.request_step.Goals as goal

pub returns-in-Ok-clause-left : goal.returns-in-Ok-clause-left
returns-in-Ok-clause-left c =
    let a = c.args in
    c.planned_step.ensures.left
    ∙ ap (λ (ws : List ℕ). request_result ws (holding a.state a.cells.now (queue_in a.row.now)) a.request) c.in-Ok.ensures.words

pub returns-in-Ok-clause-changed : goal.returns-in-Ok-clause-changed
returns-in-Ok-clause-changed c =
    let a = c.args in
    c.planned_step.ensures.changed
    ∙ ap (λ (ws : List ℕ). store_from (response_of c.planned_step.result.result.answer) (plan_of ws) a.state.waiting (queue_in a.row.now)
    a.request) c.in-Ok.ensures.words

pub returns-in-Err-clause-left : goal.returns-in-Err-clause-left
returns-in-Err-clause-left c =
    let a = c.args in
    let row = a.row.now in
    ap (λ (s : RequestResult). requested_of s a.cells.now (queue_in row)) c.with_state.ensures
    ∙ sym (left_by_verdict a.words.now (holding a.state a.cells.now (queue_in row)) a.request _
    (plan_refused a.words.now a.state a.cells.now row a.request _ c.in-Err.ensures.verdict))

pub returns-in-Err-clause-row_left : goal.returns-in-Err-clause-row_left
returns-in-Err-clause-row_left c = sym (row_left_queue_in c.args.row.now)
