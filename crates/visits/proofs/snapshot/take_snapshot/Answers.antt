-- The snapshot: the cells are copied by a table of the plan's masks.
-- Assumes nothing.
use mathlib.Core.Path.{◌≡◌, ◌∙◌, ap}
use mathlib.Core.List.{List}
use Prim.Native.Nat.{ℕ}
use borrow.Author.Rules.{rules}
use Rattle.plan.specs.Decode.{plan_of}
use Rattle.plan.specs.Accepted.{the_plan}
use Rattle.conflict.specs.Touch.{mask_table}
use Rattle.visits.proofs.SharedCopied.{taken_by}
use Rattle.visits.proofs.snapshot.take_snapshot.Goals as goal

pub returns-in-Some : goal.returns-in-Some
returns-in-Some c =
    let a = c.args in
    let t = c.in-Some.filled.now in
    let same : t.plan.words.now ≡ a.plan.now.words.now = search rules in
    c.copy_shared.ensures
    ∙ taken_by (the_plan a.plan.now) t.masks a.cells.now a.snapshot.now
    (t.filled ∙ ap (λ (ws : List ℕ). mask_table (plan_of ws)) same)

pub returns-in-None : goal.returns-in-None
returns-in-None c =
    let a = c.args in
    let t = c.fill.result in
    let same : t.plan.words.now ≡ a.plan.now.words.now = search rules in
    c.copy_shared-in-None.ensures
    ∙ taken_by (the_plan a.plan.now) t.masks a.cells.now a.snapshot.now
    (t.filled ∙ ap (λ (ws : List ℕ). mask_table (plan_of ws)) same)
