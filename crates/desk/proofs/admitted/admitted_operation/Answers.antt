-- The transaction of a request that passes questions 7 and 8 exists, and its parameters pass.
-- Assumes nothing.
use Rattle.std.proofs.Common.{rules}
use Rattle.plan.specs.Accepted.{the_plan}
use Rattle.desk.proofs.Asked.{admitted_found, admitted_passes}
use Rattle.desk.proofs.admitted.admitted_operation.Goals as goal

pub unwrap-transaction-requires : goal.unwrap-transaction-requires
unwrap-transaction-requires c =
    let found = admitted_found (the_plan c.args.plan.now) c.args.request c.requires in search rules

pub invariant_of-result : goal.invariant_of-result
invariant_of-result c =
    let found = admitted_found (the_plan c.args.plan.now) c.args.request c.requires in
    let passes = admitted_passes (the_plan c.args.plan.now) c.args.request c.requires in record { passes = search rules }

pub returns : goal.returns
returns c =
    let found = admitted_found (the_plan c.args.plan.now) c.args.request c.requires in
    record { transaction = search rules; params = search rules }
