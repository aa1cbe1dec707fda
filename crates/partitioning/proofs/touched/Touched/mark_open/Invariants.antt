-- The rows of the open transactions, as a filling fills them: what the words still to come make of the sets is what the whole plan does.
-- Assumes nothing.
use mathlib.Core.Path.{◌≡◌}
use lib.ListN.{drop}
use Rattle.plan.specs.Decode.{open_field}
use Rattle.partitioning.specs.Touched.{mark_open}
use Rattle.partitioning.specs.Sets.{sets_of}
use Rattle.partitioning.proofs.FillWalk.{fillings_from}
use Rattle.partitioning.proofs.touched.Touched.mark_open.Given as goal

abbrev pub invariant-loop-word : goal.invariant-loop-word
invariant-loop-word l =
    (l.left.fillings ≡ fillings_from l.plan l.word-index)
    × (mark_open l.partitioning l.left.fillings l.left.number (drop l.word-index l.plan) (sets_of l.self)
    ≡ mark_open open_field l.initial.left.fillings l.initial.left.number l.plan (sets_of l.initial.self))
