-- The number of desks of an accepted plan.
-- Assumes nothing.
use Rattle.std.proofs.Common.{sym}
use Rattle.plan.proofs.Accepted.{accepted_gives, desk_count_lem}
use Rattle.plan.proofs.accepted_plan.Plan.desks.Goals as goal

pub bounds-self-0 : goal.bounds-self-0
bounds-self-0 c = (accepted_gives _ c.args.self.now.accepted).words_low

pub returns-clause-desks : goal.returns-clause-desks
returns-clause-desks c = sym (desk_count_lem _)

pub returns-clause-some : goal.returns-clause-some
returns-clause-some c = (accepted_gives _ c.args.self.now.accepted).desks_low

pub returns-clause-most : goal.returns-clause-most
returns-clause-most c = (accepted_gives _ c.args.self.now.accepted).desks_high
