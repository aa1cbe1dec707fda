-- What the core says of the words of the records that wait is what the visit does on the queue itself.
-- Assumes nothing.
use Rattle.std.proofs.Common.{rules, ℕ, List, length, take, ◌≡◌, sym, ◌∙◌, ap}
use Rattle.queue.specs.Words.{queue_in, records_in}
use Rattle.queue.proofs.Copying.{waiting_records}
use Rattle.desk.specs.Holding.{holding}
use Rattle.visits.specs.Visit.{visit_result}
use Rattle.visits.proofs.ReadsWaiting.{by_lent_words}
use Rattle.conveyor.proofs.engine.visit.Goals as goal

pub returns : goal.returns
returns c =
    let a = c.args in
    let long : length c.copied-row.result ≡ 192 = search rules in
    c.visit_on_words.ensures
    ∙ ap (λ (n : ℕ). visit_result a.plan.now (holding a.state a.cells.now (queue_in (take n c.copied-row.result))) a.snapshot.now
    a.frame.now a.out.now a.replies.now) c.words_of-own.ensures
    ∙ by_lent_words a.plan.now a.state a.cells.now a.queue.now a.snapshot.now a.frame.now a.out.now a.replies.now
    c.copied-row.result long
    (λ row few. sym (ap (λ (ws : List ℕ). take a.state.waiting (records_in ws)) c.copied-row.ensures
    ∙ waiting_records a.queue.now a.state.waiting row few))
