-- 02, A.6: "The waiting row holds urgent requests before the others, each sort by arrival".
--     joins_at, arrived_by, arrivals     the requests that arrived at a desk to wait and are not answered yet, in order of arrival
--     WaitingInOrder                     those that wait at a desk are these, the urgent ones first
-- The arrivals are reckoned as the serial run is: from the plan, the list and, of the answers, only from whether each was a refusal.
use Rattle.std.specs.Prelude.{ℕ, ◌≡◌, Bool, true, false, ◌&&◌, cond, List, [], ◌∷◌, ◌++◌, map, eqb}
use Rattle.verdict.specs.Verdict.{accepted}
use Rattle.plan.specs.Plan.{Plan}
use Rattle.plan.specs.Decode.{plan_of}
use Rattle.plan.specs.Admission.{plan_verdict}
use Rattle.operation.specs.Operation.{Operation, desk_of}
use Rattle.conflict.specs.Class.{Class, is_global}
use Rattle.queue.specs.declared.record.Request.{Request}
use Rattle.desk.specs.Queueing.{operation_of, is_urgent, urgent_first}
use Rattle.desk.specs.Holding.{waiting_at}
use Rattle.requests.specs.Request.{record_of}
use Rattle.history.specs.History.{Call, request, visit, is_refused, outcomes, holdings_after, start, ProperFromStart}
use Rattle.history.specs.SerialRun.{Classifies}

-- ---- the arrivals at desk q

module _ (p : Plan) (class : Operation → Class) (q : ℕ) where
  -- a request at desk d: "A global one at its desk waits", and that desk is q
  abbrev pub joins_at : ℕ → Request → Bool
  joins_at d r = is_global (class (operation_of r)) && (eqb (desk_of p (operation_of r)) d && eqb q d)

  -- one call, with whether it was refused: an accepted visit at desk q answers all that wait there, and "Then none waits". Two equal
  -- requests are two.
  abbrev pub arrived_by : Bool → List Request → Call → List Request
  arrived_by true rs c = rs
  arrived_by false rs (request d client k ps) = cond (joins_at d (record_of client k ps)) (rs ++ (record_of client k ps ∷ [])) rs
  arrived_by false rs (visit d frame out replies) = cond (eqb q d) [] rs

  abbrev pub arrived_from : List Request → List Call → List Bool → List Request
  arrived_from rs [] refusals = rs
  arrived_from rs (c ∷ cs) [] = rs
  arrived_from rs (c ∷ cs) (b ∷ refusals) = arrived_from (arrived_by b rs c) cs refusals

  abbrev pub arrivals : List Call → List Bool → List Request
  arrivals cs refusals = arrived_from [] cs refusals

-- ---- every history like the one in demand 3, at its end: since each of its beginnings is one too, at every moment

abbrev pub WaitingInOrder : Type 0
WaitingInOrder =
    (plan : List ℕ) → plan_verdict plan ≡ accepted → (class : Operation → Class) → Classifies (plan_of plan) class
    → (cells : List ℕ) (rows : ℕ → List Request) (snapshots : ℕ → List ℕ) (cs : List Call) → ProperFromStart plan cells rows snapshots cs
    → (q : ℕ)
    → let w = start cells rows snapshots in
    waiting_at (holdings_after plan w cs q).holding
    ≡ urgent_first (is_urgent (plan_of plan)) (arrivals (plan_of plan) class q cs (map is_refused (outcomes plan w cs)))
