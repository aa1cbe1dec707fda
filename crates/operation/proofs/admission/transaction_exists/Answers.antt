-- Question 7: an accepted plan has as many transactions as its head says.
-- Assumes nothing.
use mathlib.Core.Path.{ap, sym}
use lib.Dec.{ltb}
use Rattle.plan.proofs.Accepted.{accepted_gives, transaction_count}
use Rattle.operation.specs.Admission.{transaction_exists}
use Rattle.operation.proofs.admission.transaction_exists.Goals as goal

pub bounds-plan-0 : goal.bounds-plan-0
bounds-plan-0 c = (accepted_gives _ c.requires).words_low

pub returns : goal.returns
unfolding transaction_exists
returns c = ap (ltb c.args.transaction) (sym (transaction_count c.args.plan.now c.requires))
