-- The rows of the open transactions, as a filling fills them.
-- Assumes nothing.
use native.Mathlib.Omega.{arith}
use Rattle.std.proofs.lemmas.Grind.{common_steps}
use Rattle.partitioning.specs.Touched.{mark_open}
use Rattle.partitioning.proofs.FillWalk.{fillings_behind, fillings_past}
use Rattle.partitioning.proofs.touched.Touched.mark_open.Goals as goal
use Rattle.partitioning.proofs.touched.Touched.mark_open.Goals.{then-is_open, else-is_open+then-word-eq2, else-is_open+else-word-eq2}

pub loop-word-preserved : goal.loop-word-preserved
unfolding mark_open
loop-word-preserved c =
    elim c.if-is_open.branch [
      | then-is_open w ↦ (grind (arith, common_steps, fillings_behind), grind (arith, common_steps))
      | else-is_open+then-word-eq2 w ↦ (grind (arith, common_steps, fillings_past), grind (arith, common_steps))
      | else-is_open+else-word-eq2 w ↦ (grind (arith, common_steps, fillings_past), grind (arith, common_steps))
    ]
