-- A partitioning field that names no parameter: each answer is what the definition's tests give.
-- Assumes nothing.
use borrow.Author.Tests.{eq-eqb, ne_eqb}
use Rattle.plan.proofs.form.names_no_parameter.Goals as goal

pub returns-then-partitioning-eq-OPEN : goal.returns-then-partitioning-eq-OPEN
returns-then-partitioning-eq-OPEN c = simp (eq-eqb _ _ c.if-partitioning-eq-OPEN.true)

pub returns : goal.returns
returns c = simp (ne_eqb _ _ c.if-partitioning-eq-OPEN.false)
