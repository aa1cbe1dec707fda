-- Whether an operation is global, by the masks of the cells that it may write.
-- Assumes nothing.
use Rattle.conflict.proofs.Tabled.{global_tabled}
use Rattle.conflict.proofs.mask_table.MaskTable.is_global.Goals as goal

pub returns : goal.returns
returns c =
    global_tabled c.args.operation.now.transaction _ c.args.operation.now.passes _ _ c.args.self.now.filled _ c.one_desk_each.ensures
