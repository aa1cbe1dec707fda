-- Question 3 of a step's word: kind, source and zero bits, as the definition has them.
-- Assumes nothing.
use mathlib.Core.Path.{◌∙◌, sym}
use Rattle.plan.specs.Admission.{step_formed}
use Rattle.plan.proofs.form.step_formed.Goals as goal

pub returns-then-not-step_kind : goal.returns-then-not-step_kind
unfolding step_formed
returns-then-not-step_kind c = simp (sym c.step_kind.ensures ∙ c.if-not-step_kind.true)

pub returns-then-not-source_formed : goal.returns-then-not-source_formed
unfolding step_formed
returns-then-not-source_formed c =
    simp (
      sym c.step_kind.ensures ∙ c.if-not-step_kind.false,
      ← c.source.ensures,
      sym c.source_formed.ensures ∙ c.if-not-source_formed.true,
    )

pub returns : goal.returns
unfolding step_formed
returns c =
    simp (
      sym c.step_kind.ensures ∙ c.if-not-step_kind.false,
      ← c.source.ensures,
      sym c.source_formed.ensures ∙ c.if-not-source_formed.false,
    )
    c.reserved_zero.ensures
