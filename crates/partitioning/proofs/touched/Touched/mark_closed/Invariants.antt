-- The rows of the transactions that are not open: what the words still to come make of the sets is what the whole plan does.
-- Assumes nothing.
use mathlib.Core.Path.{◌≡◌}
use lib.ListN.{drop}
use Rattle.plan.specs.Decode.{open_field}
use Rattle.partitioning.specs.Touched.{mark_closed}
use Rattle.partitioning.specs.Sets.{sets_of}
use Rattle.partitioning.proofs.touched.Touched.mark_closed.Given as goal

abbrev pub invariant-loop-word : goal.invariant-loop-word
invariant-loop-word l =
    mark_closed l.partitioning (drop l.word-index l.plan) (sets_of l.self) ≡ mark_closed open_field l.plan (sets_of l.initial.self)
