-- Demand 2: each waiting request is answered at its desk's next accepted visit. A waiting request is known by its place in the queue, so
-- that two equal requests are two. None of this asks how the desks came to hold what they hold.
--     WaitsAt, reply_part, store_before       record k waits; the words of its reply; and the store on which it runs
--     AnswersWaiting, VisitAnswersWaiting     an accepted visit answers all that wait, and no other
--     place_at, RequestWaits                  a request that is told to wait is the record at its place
--     moved_by, place_after, places_after     where a waiting record stands after a request at its desk, a call and calls
--     PlaceItsOwn                             none is moved to the place of the request
--     NoVisit, NoVisits, WaitingMoves         there it stands until its desk's next accepted visit
--     PlacesKeepOrder                         none overtakes another, and two stay two
--     AnsweredAtNextVisit                     and there it is answered
use Rattle.std.specs.Prelude.{ℕ, suc, ◌*◌, ◌<◌, ◌≡◌, true, ◌&&◌, cond, List, [], ◌∷◌, leb, eqb, get_or, take, drop}
use Rattle.plan.specs.Decode.{plan_of}
use Rattle.operation.specs.Store.{Store}
use Rattle.queue.specs.Queue.{no_request}
use Rattle.queue.specs.declared.record.Request.{Request}
use Rattle.desk.specs.Queueing.{is_urgent}
use Rattle.desk.specs.Priority.{join_place}
use Rattle.desk.specs.Holding.{Holding, waiting_at}
use Rattle.requests.specs.Request.{is_waits, record_of, request_result}
use Rattle.requests.specs.Request as asked
use Rattle.visits.specs.Visit.{forwarded, Visited, caught_up, visit_result}
use Rattle.visits.specs.Waiting.{reply_size, run_all, reply_words}
use Rattle.visits.specs.Running.{reply_to}
use Rattle.history.specs.History.{Call, request, visit, is_refused, Kept, outcome_at, step_at, holdings_after}

-- ---- a waiting request, and its reply

-- "the waiting requests lie in a lent row of 32 records": record k waits, and is r
abbrev pub WaitsAt : ℕ → Request → Holding → Type 0
WaitsAt k r h = (k < h.state.waiting) × (get_or h.queue k no_request ≡ r)

-- the words of reply k
abbrev pub reply_part : ℕ → List ℕ → List ℕ
reply_part k words = take reply_size (drop (reply_size * k) words)

-- ---- a visit, at a desk that holds h

module _ (plan : List ℕ) (h : Holding) (frame : List ℕ) where
  -- "applies the others in order, runs all waiting requests in order": the store on which record k runs, once the updates of the
  -- other desks are applied and the records before it have run
  abbrev pub store_before : ℕ → Store
  store_before k = run_all (plan_of plan) (take k h.queue) (caught_up (plan_of plan) h frame)

  -- what the visit puts out: `count` replies, over the front of these reply words
  pub record AnswersWaiting (replies : List ℕ) (count : ℕ) (left : Visited) : Type 0 where
    pub count_is : count ≡ h.state.waiting
    -- record k's reply is reply k: "kind 12 with bit 0 set if done, the client's word, the number" and "the told numbers", of its own run
    pub each : (k : ℕ) (r : Request) → WaitsAt k r h → reply_part k left.replies ≡ reply_words (reply_to (plan_of plan) r (store_before k))
    -- "Words past what is written are untouched."
    pub untouched : drop (reply_size * count) left.replies ≡ drop (reply_size * count) replies
    -- "Then none waits"
    pub none_waits : left.state.waiting ≡ 0

-- an accepted visit answers all that wait, and no other
abbrev pub VisitAnswersWaiting : Type 0
VisitAnswersWaiting =
    (plan : List ℕ) (h : Holding) (snapshot frame out replies : List ℕ) (words count : ℕ)
    → (visit_result plan h snapshot frame out replies).answer ≡ forwarded words count
    → AnswersWaiting plan h frame replies count (visit_result plan h snapshot frame out replies)

-- ---- from the request to the visit

-- the place of a request among those that wait at a desk that holds h: behind the urgent ones if it is urgent, else behind all
abbrev pub place_at : List ℕ → Holding → Request → ℕ
place_at plan h r = join_place (is_urgent (plan_of plan)) (waiting_at h) r

-- a request that is told to wait is the record at its place
abbrev pub RequestWaits : Type 0
RequestWaits =
    (plan : List ℕ) (w : ℕ → Kept) (p client k : ℕ) (ps : List ℕ)
    → (request_result plan (w p).holding (record_of client k ps)).answer ≡ asked.waits
    → WaitsAt (place_at plan (w p).holding (record_of client k ps)) (record_of client k ps)
    (step_at plan w (request p client k ps) p).holding

-- "An arriving urgent request moves the waiting others up by a place.": where record i stands after a request at its desk, one place
-- further on if the request is told to wait and its place is i or before it
abbrev pub moved_by : List ℕ → Holding → Request → ℕ → ℕ
moved_by plan h r i = cond (is_waits (request_result plan h r).answer && leb (place_at plan h r) i) (suc i) i

-- none that waited is moved to the place of the request
abbrev pub PlaceItsOwn : Type 0
PlaceItsOwn =
    (plan : List ℕ) (h : Holding) (r : Request) → (request_result plan h r).answer ≡ asked.waits
    → (i : ℕ) → moved_by plan h r i ≡ place_at plan h r → ⊥

-- where record i of desk p stands after a call: no other call moves it
abbrev pub place_after : List ℕ → ℕ → (ℕ → Kept) → Call → ℕ → ℕ
place_after plan p w (request q client k ps) i = cond (eqb p q) (moved_by plan (w q).holding (record_of client k ps) i) i
place_after plan p w (visit q frame out replies) i = i

abbrev pub places_after : List ℕ → ℕ → (ℕ → Kept) → List Call → ℕ → ℕ
places_after plan p w [] i = i
places_after plan p w (c ∷ cs) i = places_after plan p (step_at plan w c) cs (place_after plan p w c i)

-- the call is no accepted visit at desk p
abbrev pub NoVisit : List ℕ → ℕ → (ℕ → Kept) → Call → Type 0
NoVisit plan p w (request q client k ps) = Unit {0}
NoVisit plan p w (visit q frame out replies) = p ≡ q → is_refused (outcome_at plan w (visit q frame out replies)) ≡ true

abbrev pub NoVisits : List ℕ → ℕ → (ℕ → Kept) → List Call → Type 0
NoVisits plan p w [] = Unit {0}
NoVisits plan p w (c ∷ cs) = NoVisit plan p w c × NoVisits plan p (step_at plan w c) cs

-- until its desk's next accepted visit each waiting record waits, at the place to which it was moved
abbrev pub WaitingMoves : Type 0
WaitingMoves =
    (plan : List ℕ) (p : ℕ) (cs : List Call) (w : ℕ → Kept) → NoVisits plan p w cs → (i : ℕ) (r : Request)
    → WaitsAt i r (w p).holding → WaitsAt (places_after plan p w cs i) r (holdings_after plan w cs p).holding

-- none overtakes another, and two stay two
abbrev pub PlacesKeepOrder : Type 0
PlacesKeepOrder =
    (plan : List ℕ) (p : ℕ) (cs : List Call) (w : ℕ → Kept) (i j : ℕ) → i < j → places_after plan p w cs i < places_after plan p w cs j

-- "each waiting request is answered at its desk's next accepted visit": r is record i at desk p, the calls cs have no accepted visit
-- at p, and then one is accepted. RequestWaits says which record a request is that is told to wait.
abbrev pub AnsweredAtNextVisit : Type 0
AnsweredAtNextVisit =
    (plan : List ℕ) (p : ℕ) (cs : List Call) (w : ℕ → Kept) → NoVisits plan p w cs → (i : ℕ) (r : Request) → WaitsAt i r (w p).holding
    → (frame out replies : List ℕ) (words count : ℕ)
    → let h = holdings_after plan w cs p in
    let k = places_after plan p w cs i in
    (visit_result plan h.holding h.snapshot frame out replies).answer ≡ forwarded words count
    → (k < count) × (reply_part k (visit_result plan h.holding h.snapshot frame out replies).replies
    ≡ reply_words (reply_to (plan_of plan) r (store_before plan h.holding frame k)))
