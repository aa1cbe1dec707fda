-- A source: each answer is what the definition's tests give.
-- Assumes nothing.
use borrow.Author.Tests.{lt-ltb, le-ltb}
use Rattle.plan.proofs.form.source_formed.Goals as goal

pub returns-then-source-lt4 : goal.returns-then-source-lt4
returns-then-source-lt4 c = simp (lt-ltb _ _ c.if-source-lt4.true)

pub returns : goal.returns
returns c = simp (le-ltb _ _ c.if-source-lt4.false)
