-- `word::source`: each answer is the branch of the definition that the tests before it chose.
-- Assumes nothing.
use borrow.Author.Tests.{lt-ltb, le-ltb, le-leb, lt-leb}
use Rattle.word.specs.Reserved.{source_field}
use Rattle.word.proofs.ReservedBits.{source_none}
use Rattle.word.proofs.reserved.source.Goals as goal

pub returns-then-kind-lt3 : goal.returns-then-kind-lt3
unfolding source_field
returns-then-kind-lt3 c = simp (lt-ltb _ _ c.if-kind-lt3.true)

pub returns-then-kind-le4 : goal.returns-then-kind-le4
unfolding source_field
returns-then-kind-le4 c = simp (le-ltb _ _ c.if-kind-lt3.false, le-leb _ _ c.if-kind-le4.true)

pub returns-then-kind-le8 : goal.returns-then-kind-le8
unfolding source_field
returns-then-kind-le8 c = simp (le-ltb _ _ c.if-kind-lt3.false, lt-leb _ _ c.if-kind-le4.false, le-leb _ _ c.if-kind-le8.true)

pub returns : goal.returns
returns c = source_none _ c.if-kind-le8.false
