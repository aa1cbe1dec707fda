-- A partitioning field: each answer is what the definition's tests give.
-- Assumes nothing.
use borrow.Author.Tests.{lt-ltb, le-ltb}
use Rattle.plan.proofs.form.partitioning_formed.Goals as goal

pub returns-then-partitioning-lt4 : goal.returns-then-partitioning-lt4
returns-then-partitioning-lt4 c = simp (lt-ltb _ _ c.if-partitioning-lt4.true)

pub returns : goal.returns
returns c = simp (le-ltb _ _ c.if-partitioning-lt4.false) c.names_no_parameter.ensures
