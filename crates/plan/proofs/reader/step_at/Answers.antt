-- A word stands at the place, is well formed, and is no fifth that tells; past the end none does.
-- Assumes nothing.
use mathlib.Core.Path.{◌∙◌, sym, ap}
use Prim.Native.Nat.{ℕ}
use lib.Dec.{leb}
use borrow.Author.Tests.{lt-ltb, le-ltb}
use Rattle.plan.proofs.reader.step_at.Goals as goal

pub returns-then-plan-at : goal.returns-then-plan-at
returns-then-plan-at c = simp (le-ltb _ _ c.if-plan-at.true)

pub returns-then-not-step_formed : goal.returns-then-not-step_formed
returns-then-not-step_formed c =
    simp (lt-ltb _ _ c.if-plan-at.false, sym c.step_formed.ensures ∙ c.if-not-step_formed.true)

pub returns : goal.returns
returns c =
    simp (
      lt-ltb _ _ c.if-plan-at.false,
      sym c.step_formed.ensures ∙ c.if-not-step_formed.false,
    )
    (ap (λ (n : ℕ). leb n 4) c.tells_with.ensures)
