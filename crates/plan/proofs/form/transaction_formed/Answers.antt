-- Question 3 of a transaction's word: each answer is what the definition's tests give.
-- Assumes nothing.
use mathlib.Core.Path.{◌∙◌, sym}
use borrow.Author.Tests.{le-leb, lt-leb, eq-eqb, ne_eqb}
use Rattle.plan.specs.Admission.{transaction_formed}
use Rattle.plan.proofs.form.transaction_formed.Goals as goal

pub returns-then-word-ne2 : goal.returns-then-word-ne2
unfolding transaction_formed
returns-then-word-ne2 c = simp (ne_eqb _ _ c.if-word-ne2.true)

pub returns-then-parameters-gt4 : goal.returns-then-parameters-gt4
unfolding transaction_formed
returns-then-parameters-gt4 c = simp (eq-eqb _ _ c.if-word-ne2.false, lt-leb _ _ c.if-parameters-gt4.true)

pub returns-then-steps-lt1 : goal.returns-then-steps-lt1
unfolding transaction_formed
returns-then-steps-lt1 c = simp (eq-eqb _ _ c.if-word-ne2.false, le-leb _ _ c.if-parameters-gt4.false, lt-leb _ _ c.if-steps-lt1.true)

pub returns-then-steps-gt12 : goal.returns-then-steps-gt12
unfolding transaction_formed
returns-then-steps-gt12 c =
    simp (
      eq-eqb _ _ c.if-word-ne2.false,
      le-leb _ _ c.if-parameters-gt4.false,
      le-leb _ _ c.if-steps-lt1.false,
      lt-leb _ _
          c.if-steps-gt12.true,
    )

pub returns-then-not-partitioning_formed : goal.returns-then-not-partitioning_formed
unfolding transaction_formed
returns-then-not-partitioning_formed c =
    simp (
      eq-eqb _ _ c.if-word-ne2.false,
      le-leb _ _ c.if-parameters-gt4.false,
      le-leb _ _ c.if-steps-lt1.false,
      le-leb _ _ c.if-steps-gt12.false,
      sym c.partitioning_formed.ensures ∙ c.if-not-partitioning_formed.true,
    )

pub returns : goal.returns
unfolding transaction_formed
returns c =
    simp (
      eq-eqb _ _ c.if-word-ne2.false,
      le-leb _ _ c.if-parameters-gt4.false,
      le-leb _ _ c.if-steps-lt1.false,
      le-leb _ _ c.if-steps-gt12.false,
      sym c.partitioning_formed.ensures ∙ c.if-not-partitioning_formed.false,
    )
    c.reserved_zero.ensures
