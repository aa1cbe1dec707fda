-- Questions 1 to 4: each answer is the branch of the verdict that the questions before it chose.
-- Assumes nothing.
use borrow.Author.Tests.{le-leb, lt-leb, eq-eqb, ne_eqb}
use mathlib.Core.Path.{◌∙◌, sym}
use Rattle.plan.specs.Admission.{open_plan_verdict, has_head}
use Rattle.plan.proofs.reader.read_open_plan.Goals as goal

pub returns-then-words-lt1 : goal.returns-then-words-lt1
unfolding open_plan_verdict has_head
returns-then-words-lt1 c = simp (lt-leb _ _ c.if-words-lt1.true)

pub returns-then-words-gt417 : goal.returns-then-words-gt417
unfolding open_plan_verdict has_head
returns-then-words-gt417 c = simp (le-leb _ _ c.if-words-lt1.false, lt-leb _ _ c.if-words-gt417.true)

pub returns-then-head-ne1 : goal.returns-then-head-ne1
unfolding open_plan_verdict has_head
returns-then-head-ne1 c = simp (
  le-leb _ _ c.if-words-lt1.false,
  le-leb _ _ c.if-words-gt417.false,
  ne_eqb _ _
      c.if-head-ne1.true,
)

pub returns-then-head-words : goal.returns-then-head-words
unfolding open_plan_verdict has_head
returns-then-head-words c =
    simp (
      le-leb _ _ c.if-words-lt1.false,
      le-leb _ _ c.if-words-gt417.false,
      eq-eqb _ _ c.if-head-ne1.false,
      ne_eqb _ _ c.if-head-words.true,
    )

pub returns-then-not-counts_in_range : goal.returns-then-not-counts_in_range
unfolding open_plan_verdict has_head
returns-then-not-counts_in_range c =
    simp (
      le-leb _ _ c.if-words-lt1.false,
      le-leb _ _ c.if-words-gt417.false,
      eq-eqb _ _ c.if-head-ne1.false,
      eq-eqb _ _ c.if-head-words.false,
      sym c.counts_in_range.ensures ∙ c.if-not-counts_in_range.true,
    )

pub returns : goal.returns
unfolding open_plan_verdict has_head
returns c =
    simp (
      le-leb _ _ c.if-words-lt1.false,
      le-leb _ _ c.if-words-gt417.false,
      eq-eqb _ _ c.if-head-ne1.false,
      eq-eqb _ _ c.if-head-words.false,
      sym c.counts_in_range.ensures ∙ c.if-not-counts_in_range.false,
    )
    c.read_transactions.ensures
