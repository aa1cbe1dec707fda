-- `word::reserved_zero`: each answer is that of the kinds which the tests leave, at the word's own source.
-- Assumes nothing.
use mathlib.Core.Path.{◌∙◌}
use Rattle.word.proofs.ReservedBits.{none_below_2, transaction_zero, access_zero, operand_zero, sourceless_zero}
use Rattle.word.proofs.reserved.reserved_zero.Goals as goal

pub returns-then-kind-lt2 : goal.returns-then-kind-lt2
returns-then-kind-lt2 c = none_below_2 _ c.if-kind-lt2.true

pub returns-then-kind-le2 : goal.returns-then-kind-le2
returns-then-kind-le2 c = transaction_zero _ c.if-kind-lt2.false c.if-kind-le2.true

pub returns-then-kind-le4 : goal.returns-then-kind-le4
returns-then-kind-le4 c =
    c.access_bits_zero.ensures
    ∙ access_zero _ _ c.source-source.ensures c.if-kind-le2.false c.if-kind-le4.true

pub returns-then-kind-le8 : goal.returns-then-kind-le8
returns-then-kind-le8 c =
    c.operand_bits_zero.ensures
    ∙ operand_zero _ _ c.source-source.ensures c.if-kind-le4.false c.if-kind-le8.true

pub returns : goal.returns
returns c = c.sourceless_bits_zero.ensures ∙ sourceless_zero _ c.if-kind-le8.false
