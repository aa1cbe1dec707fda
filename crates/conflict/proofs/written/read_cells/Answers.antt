-- The cells that an operation may read: those collected, and behind them those to come.
-- Assumes nothing.
use Rattle.std.proofs.Common.{rules, length, ◌<◌}
use Rattle.plan.specs.Plan.{reads}
use Rattle.conflict.proofs.ReadCells.{room}
use Rattle.conflict.proofs.written.read_cells.Goals as goal

pub push-requires : goal.push-requires
push-requires c =
    let o = c.args.operation.now in
    let below : length c.loop-cell.cells.items < 12 =
    room reads o.params _ o.transaction.step_words.now o.transaction.formed c.loop-cell.cells.items _ _ _ c.loop-cell.invariant
    c.in-Some.ensures.steps in
    (search rules, below)
