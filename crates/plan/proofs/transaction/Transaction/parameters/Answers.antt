-- A well-formed transaction has at most four parameters.
-- Assumes nothing.
use Rattle.std.proofs.Common.{eqb}
use borrow.Author.Tests.{leb-true}
use Rattle.lists.proofs.Laws.{and_fst, and_snd}
use Rattle.word.specs.Field.{kind_of, parameter_count}
use Rattle.plan.specs.Admission.{transaction_formed}
use Rattle.plan.proofs.transaction.Transaction.parameters.Goals as goal

pub returns-clause-most : goal.returns-clause-most
unfolding transaction_formed
returns-clause-most c =
    let w = c.args.self.now.word in
    leb-true (parameter_count w) 4 (and_fst _ _ (and_snd (eqb (kind_of w) 2) _ c.args.self.now.formed.form))
