-- `word::sourceless_bits_zero`: the tests leave one kind for each answer, and none of the last two has reserved bits.
-- Assumes nothing.
use mathlib.Core.Path.{◌∙◌}
use Rattle.word.proofs.ReservedBits.{same_kind, lowest_field_zero, none_from_14}
use Rattle.word.proofs.reserved.sourceless_bits_zero.Goals as goal

pub returns-then-kind-le9 : goal.returns-then-kind-le9
returns-then-kind-le9 c = same_kind 9 _ 0 _ c.requires.0 c.if-kind-le9.true

pub returns-then-kind-le10 : goal.returns-then-kind-le10
returns-then-kind-le10 c = lowest_field_zero 20 c.args.word ∙ same_kind 10 _ 0 _ c.if-kind-le9.false c.if-kind-le10.true

pub returns-then-kind-le11 : goal.returns-then-kind-le11
returns-then-kind-le11 c = same_kind 11 _ 0 _ c.if-kind-le10.false c.if-kind-le11.true

pub returns-then-kind-le12 : goal.returns-then-kind-le12
returns-then-kind-le12 c = same_kind 12 _ 0 _ c.if-kind-le11.false c.if-kind-le12.true

pub returns-then-kind-le13 : goal.returns-then-kind-le13
returns-then-kind-le13 c =
    lowest_field_zero 28 c.args.word ∙ same_kind 13 _ 0 _ c.if-kind-le12.false c.if-kind-le13.true

pub returns : goal.returns
returns c = none_from_14 _ 0 _ c.if-kind-le13.false c.requires.1
