-- The mask table: what is in it, joined with what is still to come, is the mask of each cell.
-- Assumes nothing.
use Rattle.std.proofs.Common.{◌∙◌, ap}
use Rattle.plan.specs.Transaction.{the_steps, the_transactions}
use Rattle.conflict.proofs.Filling.{start, enter, step_on, leave, done}
use Rattle.conflict.proofs.InBits.{first_in_bits}
use Rattle.conflict.proofs.mask.fill_table.Goals as goal

pub loop-transaction-init : goal.loop-transaction-init
loop-transaction-init c =
    start _ _ c.desks-desks.ensures.desks _
    (ap the_transactions c.into_iter-transaction-iterator.ensures.into_iter_gives ∙ c.transactions-transaction-items.ensures) _ c.requires

pub loop-step-init : goal.loop-step-init
loop-step-init c =
    enter _ _ _ _ _ _ c.in-Some.ensures.steps _ c.partitioning-partitioning.ensures _
    (ap the_steps c.into_iter-step-iterator.ensures.into_iter_gives ∙ c.steps-step-items.ensures) c.loop-transaction.invariant

pub mark-requires : goal.mark-requires
mark-requires c =
    (c.desks-desks.ensures.some, c.desks-desks.ensures.most, c.loop-step.invariant.long, first_in_bits _ _ _ c.in-Some-step.ensures.steps)

pub loop-step-preserved : goal.loop-step-preserved
loop-step-preserved c = step_on _ _ _ _ _ _ _ _ c.in-Some-step.ensures.steps c.loop-step.invariant _ c.mark.ensures

pub loop-transaction-preserved : goal.loop-transaction-preserved
loop-transaction-preserved c = leave _ _ _ _ _ _ c.in-None-step.ensures.steps.0 c.loop-step.invariant

pub returns : goal.returns
returns c = done _ _ _ _ c.in-None.ensures.steps.0 c.loop-transaction.invariant
