-- The cost: what is summed up, with what the words still to come add, is the whole. At most 255 for each word.
-- Assumes nothing.
use mathlib.Core.Path.{◌≡◌}
use Prim.Native.Nat.{◌+◌, ◌*◌, ◌≤◌}
use lib.ListN.{drop}
use Rattle.partitioning.specs.Shared.{cost_from}
use Rattle.partitioning.proofs.cost.plan_cost.Given as goal

abbrev pub invariant-loop-word : goal.invariant-loop-word
invariant-loop-word l =
    (l.cost + l.weight ≤ 255 * l.word-index)
    × (cost_from l.shared l.weight l.cost (drop l.word-index l.plan) ≡ cost_from l.shared 0 0 l.plan)
