-- The table of places: after k turns it has those of the first k transactions, and the walk is at the next.
-- Assumes nothing.
use mathlib.Core.Path.{◌≡◌}
use Prim.Native.Nat.{◌-◌, ◌≤◌}
use Rattle.word.specs.Field.{head_transactions}
use Rattle.plan.specs.Decode.{head_of}
use Rattle.plan.specs.Place.{transaction_place}
use Rattle.plan.proofs.Placing.{Placing}
use Rattle.plan.proofs.place.transaction_places.Given as goal

abbrev pub invariant-loop-k : goal.invariant-loop-k
invariant-loop-k l =
    (l.k ≤ l.transactions) × (l.transactions ≡ head_transactions (head_of l.plan)) × (l.at ≡ transaction_place l.plan l.k)
    × Placing l.plan l.k l.places

abbrev pub decreases-loop-k : goal.decreases-loop-k
decreases-loop-k l = l.transactions - l.k
