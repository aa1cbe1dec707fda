-- The cost of a filling: what the calls give, one after the other, is what the whole is.
-- Assumes nothing.
use Rattle.plan.proofs.Accepted.{open_accepted_gives}
use Rattle.partitioning.proofs.FillingCost.{filling_cost_by}
use borrow.Author.Rules.{rules}
use Rattle.partitioning.proofs.search.filling_cost.Goals as goal

pub bounds-plan-0 : goal.bounds-plan-0
bounds-plan-0 c =
    let a = open_accepted_gives _ c.requires.0 in
    let h = a.words_low in search rules

pub shared_rows-shared-requires : goal.shared_rows-shared-requires
shared_rows-shared-requires c =
    let a = open_accepted_gives _ c.requires.0 in
    (a.desks_low, a.desks_high)

pub plan_cost-requires : goal.plan_cost-requires
plan_cost-requires c = (open_accepted_gives _ c.requires.0).words_high

pub returns : goal.returns
returns c =
    filling_cost_by _ _ _ _ _ _ _ c.requires.0 c.requires.1 c.requires.2 c.mark_open.ensures c.shared_rows-shared.ensures
    c.plan_cost.ensures
