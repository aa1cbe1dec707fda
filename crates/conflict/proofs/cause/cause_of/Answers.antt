-- The cause of an operation, part by part: the desk that is found is one of the plan's.
-- Assumes nothing.
use Rattle.std.proofs.Common.{◌∙◌, sym}
use Rattle.conflict.proofs.Tabled.{mask_tabled}
use Rattle.conflict.proofs.Found.{cell_low, desk_below_desks}
use Rattle.conflict.proofs.cause.cause_of.Goals as goal

pub cause_transaction-requires : goal.cause_transaction-requires
cause_transaction-requires c =
    let cell = sym c.cause_cell.ensures ∙ c.in_ok-cell.was in
    let mask = c.mask.ensures ∙ mask_tabled _ _ c.args.masks.now.filled _ (cell_low _ _ _ _ cell) in
    desk_below_desks _ _ _ _ cell _ mask _ (sym c.cause_desk.ensures ∙ c.in_ok-other.was)
