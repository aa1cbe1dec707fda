-- The number of transactions of an accepted plan.
-- Assumes nothing.
use Rattle.std.proofs.Common.{sym}
use Rattle.plan.proofs.Accepted.{accepted_gives, transaction_count}
use Rattle.plan.proofs.accepted_plan.Plan.transaction_count.Goals as goal

pub bounds-self-0 : goal.bounds-self-0
bounds-self-0 c = (accepted_gives _ c.args.self.now.accepted).words_low

pub returns-clause-count : goal.returns-clause-count
returns-clause-count c = sym (transaction_count _ c.args.self.now.accepted)

pub returns-clause-most : goal.returns-clause-most
returns-clause-most c = (accepted_gives _ c.args.self.now.accepted).transactions_high
