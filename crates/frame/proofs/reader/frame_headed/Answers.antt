-- Question 10: each answer is what the definition's tests give.
-- Assumes nothing.
use Rattle.std.proofs.Common.{sym, ◌∙◌, eq-eqb, ne_eqb, le-leb}
use borrow.Author.Tests.{lt-leb}
use Rattle.frame.specs.Admission.{frame_headed}
use Rattle.frame.proofs.reader.frame_headed.Goals as goal

pub returns-then-words-lt-LEAST_FRAME : goal.returns-then-words-lt-LEAST_FRAME
unfolding frame_headed
returns-then-words-lt-LEAST_FRAME c = simp (lt-leb _ _ c.if-words-lt-LEAST_FRAME.true)

pub returns-then-words-gt-LONGEST_FRAME : goal.returns-then-words-gt-LONGEST_FRAME
unfolding frame_headed
returns-then-words-gt-LONGEST_FRAME c = simp (le-leb _ _ c.if-words-lt-LEAST_FRAME.false, lt-leb _ _ c.if-words-gt-LONGEST_FRAME.true)

pub returns-then-head-ne9 : goal.returns-then-head-ne9
unfolding frame_headed
returns-then-head-ne9 c =
    simp (le-leb _ _ c.if-words-lt-LEAST_FRAME.false, le-leb _ _ c.if-words-gt-LONGEST_FRAME.false, ne_eqb _ _ c.if-head-ne9.true)

pub returns-then-not-reserved_zero : goal.returns-then-not-reserved_zero
unfolding frame_headed
returns-then-not-reserved_zero c =
    simp (
      le-leb _ _ c.if-words-lt-LEAST_FRAME.false,
      le-leb _ _ c.if-words-gt-LONGEST_FRAME.false,
      eq-eqb _ _ c.if-head-ne9.false,
      sym c.reserved_zero.ensures ∙ c.if-not-reserved_zero.true,
    )

pub returns : goal.returns
unfolding frame_headed
returns c =
    simp (
      le-leb _ _ c.if-words-lt-LEAST_FRAME.false,
      le-leb _ _ c.if-words-gt-LONGEST_FRAME.false,
      eq-eqb _ _ c.if-head-ne9.false,
      sym c.reserved_zero.ensures ∙ c.if-not-reserved_zero.false,
    )
