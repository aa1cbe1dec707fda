-- The serial order of a history holds what was finished, each once, and follows the rule of 01 pair by pair.
use Rattle.std.specs.Prelude.{ℕ, ◌<◌, ◌≡◌, ◌⊎◌, true, length, get_or}
use mathlib.Core.List.{List, map, Perm}
use Rattle.verdict.specs.Verdict.{accepted}
use Rattle.plan.specs.Decode.{plan_of}
use Rattle.plan.specs.Admission.{plan_verdict}
use Rattle.operation.specs.Operation.{Operation}
use Rattle.conflict.specs.Class.{Class}
use Rattle.queue.specs.declared.record.Request.{Request}
use Rattle.history.specs.History.{Call, is_refused, outcomes, start, ProperFromStart}
use Rattle.history.specs.Order.{Finished, before}
use Rattle.history.specs.SerialRun.{Classifies, Serial, serial, order}

-- "the finished operations, two equal requests being two, are put in serial order"
abbrev pub OrderPermutes : Type 0
OrderPermutes = (s : Serial) → Perm (order s) s.finished

-- "Globals by visit, then order of running. A local or free run comes after the g-th global and before the next, ..; with equal g by
-- desk, then order of running": by their slots, and with equal slots by the calls that finished them
abbrev pub Precedes : Finished → Finished → Type 0
Precedes e f = (before e.slot f.slot ≡ true) ⊎ ((e.slot ≡ f.slot) × (e.by < f.by))

-- each of es precedes all those after it; `none` is any, and is never looked at
abbrev pub InOrder : List Finished → Type 0
InOrder es = (none : Finished) (i j : ℕ) → i < j → j < length es → Precedes (get_or es i none) (get_or es j none)

abbrev pub OrderFollowsRule : Type 0
OrderFollowsRule =
    (plan : List ℕ) → plan_verdict plan ≡ accepted → (class : Operation → Class) → Classifies (plan_of plan) class
    → (cells : List ℕ) (rows : ℕ → List Request) (snapshots : ℕ → List ℕ) (cs : List Call) → ProperFromStart plan cells rows snapshots cs
    → InOrder (order (serial (plan_of plan) class cs (map is_refused (outcomes plan (start cells rows snapshots) cs))))
