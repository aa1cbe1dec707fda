-- An accepted frame has its head.
-- Assumes nothing.
use Rattle.std.proofs.Common.{arith}
use Rattle.frame.proofs.Verdicts.{frame_length_low}
use Rattle.frame.proofs.accepted_frame.Frame.addressed.Goals as goal

pub bounds-self-0 : goal.bounds-self-0
bounds-self-0 c = omega (arith, frame_length_low _ _ c.args.self.now.accepted)
