-- An accepted frame has its visit.
-- Assumes nothing.
use Rattle.std.proofs.Common.{arith}
use Rattle.frame.proofs.Verdicts.{frame_length_low}
use Rattle.frame.proofs.accepted_frame.Frame.visit.Goals as goal

pub bounds-self-1 : goal.bounds-self-1
bounds-self-1 c = omega (arith, frame_length_low _ _ c.args.self.now.accepted)
