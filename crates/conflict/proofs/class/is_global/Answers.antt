-- Whether an operation is global, by the masks of the cells that it may write, in a table that is lent.
-- Assumes nothing.
use Rattle.conflict.proofs.Tabled.{global_tabled}
use Rattle.conflict.proofs.class.is_global.Goals as goal

pub returns : goal.returns
returns c =
    let t = c.standing-transaction in
    rw (← t.ensures)
    (global_tabled t.result c.args.params (rw (← t.ensures) at c.requires.1) _ _ c.requires.2 _ c.one_desk_each.ensures)
