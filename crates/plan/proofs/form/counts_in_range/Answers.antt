-- Question 2: each answer is what the definition's tests give.
-- Assumes nothing.
use borrow.Author.Tests.{le-leb, lt-leb}
use Rattle.plan.specs.Admission.{counts_in_range}
use Rattle.plan.proofs.form.counts_in_range.Goals as goal

pub returns-then-desks-lt1 : goal.returns-then-desks-lt1
unfolding counts_in_range
returns-then-desks-lt1 c = simp (lt-leb _ _ c.if-desks-lt1.true)

pub returns-then-desks-gt8 : goal.returns-then-desks-gt8
unfolding counts_in_range
returns-then-desks-gt8 c = simp (le-leb _ _ c.if-desks-lt1.false, lt-leb _ _ c.if-desks-gt8.true)

pub returns-then-transactions-lt1 : goal.returns-then-transactions-lt1
unfolding counts_in_range
returns-then-transactions-lt1 c = simp (
  le-leb _ _ c.if-desks-lt1.false,
  le-leb _ _ c.if-desks-gt8.false,
  lt-leb _ _ c.if-transactions-lt1.true,
)

pub returns : goal.returns
unfolding counts_in_range
returns c = simp (le-leb _ _ c.if-desks-lt1.false, le-leb _ _ c.if-desks-gt8.false, le-leb _ _ c.if-transactions-lt1.false)
