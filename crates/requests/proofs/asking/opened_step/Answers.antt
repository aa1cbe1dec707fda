-- The request behind questions 1 to 6 and 17: refused with the number of the first of them whose answer is no, or left as its route leaves
-- it, with its record put in if it waits.
-- Assumes nothing.
use Rattle.std.proofs.Common.{◌≡◌, ◌∙◌, sym, ap, ℕ, List, [], length, rules}
use mathlib.Core.Bool.{false≢true}
use borrow.Author.Tests.{eq-eqb}
use Rattle.verdict.specs.Verdict.{verdict_of}
use Rattle.plan.specs.Accepted.{the_plan}
use Rattle.queue.specs.declared.record.Request.{Request}
use Rattle.queue.specs.Words.{queue_in}
use Rattle.queue.proofs.Rows.{queue_in_row}
use Rattle.queue.proofs.RowsLeft.{row_left_queue_in, row_left_of_lem}
use Rattle.desk.specs.Holding.{holding}
use Rattle.requests.specs.declared.answer.RequestResult.{RequestResult}
use Rattle.requests.specs.Answer.{response_of, requested_of}
use Rattle.requests.specs.Step.{queue_after, store_from}
use Rattle.requests.proofs.Handed.{opened_refused, opened_passes}
use Rattle.requests.proofs.Stored.{left_by_verdict, left_beside, left_whole}
use Rattle.requests.proofs.asking.opened_step.Goals as goal

pub returns-in-Err-clause-left : goal.returns-in-Err-clause-left
returns-in-Err-clause-left c =
    let a = c.args in
    let row = a.row.now in
    ap (λ (s : RequestResult). requested_of s a.cells.now (queue_in row)) c.with_state.ensures
    ∙ sym (left_by_verdict a.plan.now.words.now (holding a.state a.cells.now (queue_in row)) a.request _
    (opened_refused a.plan.now.words.now a.state a.cells.now row a.request _ (ap verdict_of (sym c.in-Err.is) ∙ c.requires.verdict)))

pub returns-in-Err-clause-row_left : goal.returns-in-Err-clause-row_left
returns-in-Err-clause-row_left c = sym (row_left_queue_in c.args.row.now)

pub returns-clause-left : goal.returns-clause-left
returns-clause-left c =
    let a = c.args in
    let row : List ℕ = a.row.now in
    let row' : List ℕ = c.enqueue-from.new.row in
    let cells' : List ℕ = c.serve-served.new.cells in
    let result = c.with_state-result.result in
    let same : length row' ≡ length row = search rules in
    let passes = opened_passes a.plan.now.words.now a.state a.cells.now row a.request
    (ap verdict_of (sym c.in-Ok.is) ∙ c.requires.verdict) in
    let long : length row ≡ 192 = search rules in
    let beside = ap (λ (s : RequestResult). requested_of s cells' []) c.with_state-result.ensures
    ∙ c.serve-served.ensures
    ∙ left_beside a.plan.now.words.now a.state a.cells.now (queue_in row) a.request _ passes in
    left_whole a.plan.now.words.now a.state a.cells.now (queue_in row) a.request result cells' (queue_in row') beside
    (queue_in_row row' (same ∙ long) ∙ c.enqueue-from.ensures.queue
    ∙ ap (λ (q : List Request). queue_after (response_of result.answer) (the_plan a.plan.now) a.state.waiting q a.request)
    (sym (queue_in_row row long)))

pub returns-clause-row_left : goal.returns-clause-row_left
returns-clause-row_left c =
    let row : List ℕ = c.args.row.now in
    let row' : List ℕ = c.enqueue-from.new.row in
    let same : length row' ≡ length row = search rules in
    let long : length row ≡ 192 = search rules in
    row_left_of_lem row row' same (λ e. absurd (false≢true (sym e ∙ eq-eqb (length row) 192 long)))

pub returns-clause-changed : goal.returns-clause-changed
returns-clause-changed c =
    let a = c.args in
    let long : length a.row.now ≡ 192 = search rules in
    c.enqueue-from.ensures.from
    ∙ ap (λ (q : List Request). store_from (response_of c.with_state-result.result.answer) (the_plan a.plan.now) a.state.waiting q
    a.request) (sym (queue_in_row a.row.now long))
