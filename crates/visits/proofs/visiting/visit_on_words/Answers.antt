-- The visit: refused with the number of the first question of its plan whose answer is no, or left as that of an accepted plan.
-- Assumes nothing.
use mathlib.Core.Path.{◌∙◌, ap}
use mathlib.Core.List.{List}
use Prim.Native.Nat.{ℕ}
use Rattle.queue.specs.Words.{queue_in}
use Rattle.desk.specs.Holding.{holding}
use Rattle.visits.specs.Visit.{visit_result}
use Rattle.visits.proofs.Visited.{plan_refused, refused_leaves}
use Rattle.visits.proofs.visiting.visit_on_words.Goals as goal

pub returns-in-Ok : goal.returns-in-Ok
returns-in-Ok c =
    let a = c.args in
    c.planned_visit.ensures
    ∙ ap (λ (ws : List ℕ). visit_result ws (holding a.state a.cells.now (queue_in a.row.now)) a.snapshot.now a.frame.now a.out.now
    a.replies.now) c.in-Ok.ensures.words

pub returns-in-Err : goal.returns-in-Err
returns-in-Err c = refused_leaves _ _ _ _ _ _ _ _ _ (plan_refused _ _ _ _ _ _ _ _ _ c.in-Err.ensures.verdict)
