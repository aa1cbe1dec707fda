-- The kinds of a step: each answer is what the definition's tests give.
-- Assumes nothing.
use mathlib.Core.Bool.{or-false, or-true}
use borrow.Author.Tests.{le-leb, lt-leb, eq-eqb, ne_eqb}
use Rattle.plan.proofs.form.step_kind.Goals as goal

pub returns-then-kind-eq13 : goal.returns-then-kind-eq13
returns-then-kind-eq13 c = simp (eq-eqb _ _ c.if-kind-eq13.true, or-true)

pub returns-then-kind-lt3 : goal.returns-then-kind-lt3
returns-then-kind-lt3 c = simp (ne_eqb _ _ c.if-kind-eq13.false, lt-leb _ _ c.if-kind-lt3.true)

pub returns : goal.returns
returns c = simp (ne_eqb _ _ c.if-kind-eq13.false, le-leb _ _ c.if-kind-lt3.false, or-false)
