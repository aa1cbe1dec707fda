-- The rows that are not desk 0's, where none of 1 to 7 is the number of desks.
-- Assumes nothing.
use mathlib.Core.Path.{◌≡◌, sym, ap}
use native.Mathlib.Omega.{arith}
use Rattle.conflict.specs.Mask.{mask_of}
use Rattle.partitioning.specs.Shared.{rows_off_desk0}
use Rattle.partitioning.proofs.cost.rows_off_desk_0.Goals as goal

pub returns-in_default : goal.returns-in_default
unfolding mask_of
returns-in_default c =
    let eight : c.args.desks ≡ 8 = omega arith in
    ap rows_off_desk0 (sym eight)
