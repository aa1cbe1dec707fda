-- Whether a word is open: the tests on its fields are those of the definition.
-- Assumes nothing.
use borrow.Author.Tests.{eq-eqb, ne_eqb}
use Rattle.plan.proofs.open.is_open.Goals as goal

pub returns-then-word-ne2 : goal.returns-then-word-ne2
returns-then-word-ne2 c = simp (ne_eqb _ _ c.if-word-ne2.true)

pub returns : goal.returns
returns c = simp (eq-eqb _ _ c.if-word-ne2.false)
