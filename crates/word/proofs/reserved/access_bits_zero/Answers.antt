-- `word::access_bits_zero`: the source chooses between the two fields.
-- Assumes nothing.
use borrow.Author.Tests.{eq-eqb, ne_eqb}
use Rattle.word.proofs.ReservedBits.{lowest_field_zero}
use Rattle.word.proofs.reserved.access_bits_zero.Goals as goal

pub returns-then-source-eq7 : goal.returns-then-source-eq7
returns-then-source-eq7 c = simp (eq-eqb _ _ c.if-source-eq7.true)

pub returns : goal.returns
returns c = rw (ne_eqb _ _ c.if-source-eq7.false) (lowest_field_zero 20 c.args.word)
