-- The first of the fillings that cost least: after so many turns it is the first of those below `number`.
-- Assumes nothing.
use mathlib.Core.Path.{◌≡◌}
use Rattle.partitioning.specs.Best.{least_at, cost_by}
use Rattle.partitioning.proofs.search.search.Given as goal

abbrev pub invariant-loop-number : goal.invariant-loop-number
invariant-loop-number l =
    (l.best.number ≡ least_at (cost_by l.plan) l.number) × (l.best.cost ≡ cost_by l.plan l.best.number)
