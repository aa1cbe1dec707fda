-- An accepted frame has words 0 and 1, and two sums.
-- Assumes nothing.
use Rattle.std.proofs.Common.{arith, rules}
use Rattle.frame.proofs.Verdicts.{frame_length_low}
use Rattle.frame.proofs.accepted_frame.Frame.updates.Goals as goal

pub overflow_sub-end : goal.overflow_sub-end
overflow_sub-end c = omega (arith, frame_length_low _ _ c.args.self.now.accepted)

pub slice_bounds-result-count : goal.slice_bounds-result-count
slice_bounds-result-count c = omega (arith, frame_length_low _ _ c.args.self.now.accepted)

pub slice_bounds-result-start : goal.slice_bounds-result-start
slice_bounds-result-start c = let low = frame_length_low _ _ c.args.self.now.accepted in search rules
