-- The class of an operation: each answer is the branch of the definition that its tests chose.
-- Assumes nothing.
use Rattle.std.proofs.Common.{◌∙◌, sym}
use Rattle.conflict.proofs.Answers.{answered_free, answered_reading}
use Rattle.conflict.proofs.class.class_of.Goals as goal

pub returns-then-is_free : goal.returns-then-is_free
returns-then-is_free c = answered_free _ _ _ (sym c.is_free.ensures ∙ c.if-is_free.true)

pub returns : goal.returns
returns c =
    answered_reading _ _ _ _ c.desk-desk.ensures (sym c.is_free.ensures ∙ c.if-is_free.false)
    (sym c.has_write.ensures ∙ c.if-has_write.false)
