-- Demand 3: "a single claim about a whole history, not one for each call".
use Rattle.std.specs.Prelude.{ℕ, suc, ◌≤◌, ◌≡◌, List, [], ◌∷◌, map, length, get_or}
use Rattle.verdict.specs.Verdict.{accepted}
use Rattle.lists.specs.Lists.{overwritten}
use Rattle.plan.specs.Plan.{Plan}
use Rattle.plan.specs.Decode.{plan_of}
use Rattle.plan.specs.Admission.{plan_verdict}
use Rattle.operation.specs.Operation.{Operation}
use Rattle.operation.specs.Store.{Store}
use Rattle.conflict.specs.Class.{Class, class_of, JustOne}
use Rattle.queue.specs.declared.record.Request.{Request}
use Rattle.requests.specs.Request as asked
use Rattle.visits.specs.Visit as visiting
use Rattle.visits.specs.Waiting.{Answered, replies_words}
use Rattle.history.specs.History.{Call, request, visit, Outcome, requested, visited, is_refused, Kept, outcomes, holdings_after}
use Rattle.history.specs.History.{start, ProperFromStart}
use Rattle.history.specs.SerialRun.{Classifies, Serial, serial, order, store_after, due}

-- ---- what a call gives

-- "A request finished at once is answered with its reply": the replies of a request's answer, with the client's word
abbrev pub replies_in : ℕ → asked.Response → List Answered
replies_in client (asked.replied r) = record { client = client; reply = r } ∷ []
replies_in client asked.waits = []
replies_in client (asked.redirected d) = []
replies_in client (asked.request_refused question) = []

-- "A visit puts out the replies of what it finished, in that order and with their clients' words, and its count is how many they
-- are": rs stand in the reply buffer, whose words past them are as they were; `before` are its words before the visit
abbrev pub PutsOut : visiting.Forwarding → List ℕ → List ℕ → List Answered → Type 0
PutsOut (visiting.forwarded words count) before after rs = (count ≡ length rs) × (after ≡ overwritten (replies_words rs) before)
PutsOut (visiting.visit_refused question) before after rs = (rs ≡ []) × (after ≡ before)

-- the call with this outcome gives these replies, and no other
abbrev pub Gives : Call → Outcome → List Answered → Type 0
Gives (request p client k ps) (requested r) rs = replies_in client r.answer ≡ rs
Gives (request p client k ps) (visited v) rs = ⊥
Gives (visit p frame out replies) (requested r) rs = ⊥
Gives (visit p frame out replies) (visited v) rs = PutsOut v.answer replies v.replies rs

-- each of the calls, the first of them number i, gives the replies due to it
abbrev pub EachGives : (ℕ → List Answered) → ℕ → List Call → List Outcome → Type 0
EachGives replies i [] os = Unit {0}
EachGives replies i (c ∷ cs) [] = ⊥
EachGives replies i (c ∷ cs) (o ∷ os) = Gives c o (replies i) × EachGives replies (suc i) cs os

-- ---- the claim

-- b the starting cells, os the outcomes of the calls cs, w the holdings at the end, s the serial run at the end
pub record Serializable (p : Plan) (b : Store) (cs : List Call) (os : List Outcome) (w : ℕ → Kept) (s : Serial) : Type 0 where
  pub all_replies : EachGives (λ i. due p i (order s) b) 0 cs os
  -- "A request finished at once is answered with its reply. A visit puts out the replies of what it finished": the calls give all
  -- that is due, and past the last of them nothing is
  pub none_further : (i : ℕ) → length cs ≤ i → due p i (order s) b ≡ []
  -- "A cell that just one desk may touch has its serial value in that desk's book"
  pub one_desk : (c d : ℕ) → JustOne p c d → get_or (w d).holding.cells c 0 ≡ get_or (store_after p (order s) b) c 0
  -- "any other, at the desk of the latest accepted visit (desk 0 before any)"
  pub any_other : (c : ℕ) → ((d : ℕ) → JustOne p c d → ⊥) → get_or (w s.latest).holding.cells c 0 ≡ get_or (store_after p (order s) b) c 0

-- every history that satisfies the premise, "all with one plan that the plan reader accepts", from equal cells, any queues and any
-- snapshots
abbrev pub Claim : Type 0
Claim =
    (plan : List ℕ) → plan_verdict plan ≡ accepted → (class : Operation → Class) → Classifies (plan_of plan) class
    → (cells : List ℕ) (rows : ℕ → List Request) (snapshots : ℕ → List ℕ) (cs : List Call) → ProperFromStart plan cells rows snapshots cs
    → let w = start cells rows snapshots in
    Serializable (plan_of plan) cells cs (outcomes plan w cs) (holdings_after plan w cs)
    (serial (plan_of plan) class cs (map is_refused (outcomes plan w cs)))

-- the claim with the class that the engine computes
abbrev pub ComputedClaim : Type 0
ComputedClaim =
    (plan : List ℕ) → plan_verdict plan ≡ accepted → (cells : List ℕ) (rows : ℕ → List Request) (snapshots : ℕ → List ℕ) (cs : List Call)
    → ProperFromStart plan cells rows snapshots cs
    → let w = start cells rows snapshots in
    Serializable (plan_of plan) cells cs (outcomes plan w cs) (holdings_after plan w cs)
    (serial (plan_of plan) (class_of (plan_of plan)) cs (map is_refused (outcomes plan w cs)))
