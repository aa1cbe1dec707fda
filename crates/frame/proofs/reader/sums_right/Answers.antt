-- Question 11: one sum after the other.
-- Assumes nothing.
use Rattle.std.proofs.Common.{sym, arith, length-take-le}
use Rattle.frame.proofs.Summing.{first_wrong, first_right}
use Rattle.frame.proofs.reader.sums_right.Goals as goal

pub slice_bounds-frame_sums-end : goal.slice_bounds-frame_sums-end
slice_bounds-frame_sums-end c = sym (length-take-le _ _ (omega arith))

pub returns-then-frame-end : goal.returns-then-frame-end
returns-then-frame-end c = first_wrong _ _ _ c.frame_sums-sums.ensures c.if-frame-end.true

pub returns : goal.returns
returns c =
    first_right _ _ _ c.frame_sums-sums.ensures c.if-frame-end.false c.before.requires
