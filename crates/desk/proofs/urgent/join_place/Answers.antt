-- Any other request joins behind all that wait.
-- Assumes nothing.
use Rattle.std.proofs.Common.{rules}
use Rattle.queue.proofs.WaitingRecords.{waiting_length}
use Rattle.desk.proofs.urgent.join_place.Goals as goal

pub returns-else-is_urgent : goal.returns-else-is_urgent
returns-else-is_urgent c =
    let l = waiting_length c.args.row.now c.args.waiting c.requires in search rules
