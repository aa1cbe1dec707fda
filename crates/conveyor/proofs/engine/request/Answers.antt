-- What the core leaves of the words of the records that wait, stored back, is what the request leaves of the queue itself.
-- Assumes nothing.
use Rattle.std.proofs.Common.{◌≡◌, ℕ, List, length, take, ◌∙◌, ap, rules}
use Rattle.queue.specs.Words.{records_in}
use Rattle.queue.proofs.Copying.{waiting_records}
use Rattle.desk.specs.Holding.{holding}
use Rattle.requests.specs.Request.{request_result}
use Rattle.requests.specs.Answer.{requested_of}
use Rattle.requests.proofs.Stored.{copied_left}
use Rattle.conveyor.proofs.engine.request.Goals as goal

pub returns : goal.returns
returns c =
    let a = c.args in
    let row : List ℕ = c.copied-row.result in
    let own : ℕ = c.words_of-own.result in
    let part : List ℕ = c.request_step-step.new.row in
    let cells : List ℕ = c.request_step-step.new.cells in
    let result = c.request_step-step.result.result in
    let long : length row ≡ 192 = search rules in
    let same : length part ≡ length (take own row) = search rules in
    ap (requested_of result cells) c.store_back.ensures
    ∙ copied_left a.plan.now a.state a.cells.now a.queue.now row long
    (λ e few. ap (λ (words : List ℕ). take a.state.waiting (records_in words)) c.copied-row.ensures
    ∙ waiting_records a.queue.now a.state.waiting e few)
    own c.words_of-own.ensures c.record_of-request.result result cells part same c.request_step-step.ensures.left _
    c.request_step-step.ensures.changed
    ∙ ap (request_result a.plan.now (holding a.state a.cells.now a.queue.now)) c.record_of-request.ensures
