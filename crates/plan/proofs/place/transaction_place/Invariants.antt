-- `plan::transaction_place`: after i turns the walk is at the place of transaction i, at most 17 words further for each.
-- Assumes nothing.
use mathlib.Core.Path.{◌≡◌}
use Prim.Native.Nat.{◌+◌, ◌-◌, ◌*◌, ◌≤◌}
use Rattle.plan.specs.Place.{transaction_place}
use Rattle.plan.proofs.place.transaction_place.Given as goal

abbrev pub invariant-loop-i : goal.invariant-loop-i
invariant-loop-i l = (l.i ≤ l.k) × (l.at ≤ 1 + 17 * l.i) × (l.at ≡ transaction_place l.plan l.i)

abbrev pub decreases-loop-i : goal.decreases-loop-i
decreases-loop-i l = l.k - l.i
