-- The place of the record is among those that wait, or behind them.
-- Assumes nothing.
use Rattle.std.proofs.Common.{◌≤◌, take, arith}
use Rattle.plan.specs.Accepted.{the_plan}
use Rattle.queue.specs.Words.{records_in}
use Rattle.queue.proofs.WaitingRecords.{waiting_length}
use Rattle.desk.specs.Queueing.{is_urgent}
use Rattle.desk.proofs.Priority.{join_place_fits}
use Rattle.requests.proofs.asking.join.Goals as goal

pub insert_in-requires : goal.insert_in-requires
insert_in-requires c =
    let few : c.args.waiting ≤ 32 = omega (arith, c.requires.0) in (
      omega (
        arith,
        c.join_place-place.ensures,
        join_place_fits (is_urgent (the_plan c.args.plan.now)) (take c.args.waiting (records_in c.args.row.now)) c.args.request,
        waiting_length c.args.row.now c.args.waiting few,
      ),
      c.requires.0,
      c.requires.1,
    )
