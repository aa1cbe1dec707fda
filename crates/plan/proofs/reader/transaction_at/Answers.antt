-- A word stands at the place, and is well formed; past the end none does.
-- Assumes nothing.
use borrow.Author.Tests.{lt-ltb, le-ltb}
use Rattle.plan.proofs.reader.transaction_at.Goals as goal

pub returns-then-at-plan : goal.returns-then-at-plan
returns-then-at-plan c = simp (lt-ltb _ _ c.if-at-plan.true) c.transaction_formed.ensures

pub returns-else-at-plan : goal.returns-else-at-plan
returns-else-at-plan c = simp (le-ltb _ _ c.if-at-plan.false)
