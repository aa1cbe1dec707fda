-- `word::operand_bits_zero`: beside a fixed number there are no reserved bits.
-- Assumes nothing.
use borrow.Author.Tests.{eq-eqb, ne_eqb}
use Rattle.word.proofs.ReservedBits.{lowest_field_zero, empty_field_zero}
use Rattle.word.proofs.reserved.operand_bits_zero.Goals as goal

pub returns-then-source-eq7 : goal.returns-then-source-eq7
returns-then-source-eq7 c = rw (eq-eqb _ _ c.if-source-eq7.true) (empty_field_zero c.args.word)

pub returns : goal.returns
returns c = rw (ne_eqb _ _ c.if-source-eq7.false) (lowest_field_zero 25 c.args.word)
