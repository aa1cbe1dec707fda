-- The course of 01 as a history of the engine: plan P, two desks, cells all zero; and one in which urgent requests arrive among others.
use Rattle.std.specs.Prelude.{ℕ, ◌≡◌, ◌⊎◌, true, List, [], ◌∷◌, ◌++◌, map, get_or, replicate}
use Rattle.std.proofs.Common.{inl, inr}
use Rattle.plan.specs.Decode.{plan_of}
use Rattle.conflict.specs.Class.{class_of}
use Rattle.queue.specs.Queue.{no_request}
use Rattle.queue.specs.declared.record.Request.{Request}
use Rattle.desk.specs.Queueing.{waiting_in}
use Rattle.requests.specs.Request as asked
use Rattle.visits.specs.Visit as visiting
use Rattle.visits.specs.Waiting.{Answered}
use Rattle.starred.specs.Table.{plan_p, sent_frame, sent_on}
use Rattle.history.specs.History.{Call, request, visit, Outcome, requested, visited, is_refused, outcomes}
use Rattle.history.specs.History.{start, ProperFromStart}
use Rattle.history.specs.Order.{Finished}
use Rattle.history.specs.SerialRun.{Serial, serial, order, store_after, due}

abbrev starting : List ℕ
starting = 0x90000004 ∷ 0x00000000 ∷ 0x90000004 ∷ 0x20000008 ∷ []

abbrev sending : List ℕ
sending = sent_frame 0xA0100000

abbrev done : ℕ → asked.Response
done x = asked.replied (record { done = true; number = x; told0 = 0; told1 = 0; told2 = 0; told3 = 0 })

abbrev pub zeros : List ℕ
zeros = replicate 1024 0

abbrev pub blank : ℕ → List Request
blank p = replicate 32 no_request

-- the buffers have the papers' own numbers of words, "6,404" and "224", as the cells and records above have theirs
abbrev visit_with : ℕ → List ℕ → Call
visit_with p frame = visit p frame (replicate 6404 0) (replicate 224 0)

-- T2(1) at desk 1, T1(0, 3) at desk 0, visit 0, T2(1) again, visit 1, a replay, T2(1) once more, and visit 2; of clients 5, 7, 6 and 8
abbrev pub calls : List Call
calls =
    request 1 5 2 (1 ∷ 0 ∷ 0 ∷ 0 ∷ []) ∷ request 0 7 1 (0 ∷ 3 ∷ 0 ∷ 0 ∷ []) ∷ visit_with 0 starting ∷ request 1 6 2 (1 ∷ 0 ∷ 0 ∷ 0 ∷ [])
    ∷ visit_with 1 sending ∷ visit_with 1 sending ∷ request 1 8 2 (1 ∷ 0 ∷ 0 ∷ 0 ∷ []) ∷ visit_with 0 sent_on ∷ []

abbrev says : Outcome → asked.Response ⊎ visiting.Forwarding
says (requested r) = inl r.answer
says (visited v) = inr v.answer

-- what a visit leaves in cell 128 of its desk's snapshot
abbrev page : Outcome → List ℕ
page (requested r) = []
page (visited v) = get_or v.snapshot 128 0 ∷ []

abbrev pages : List Outcome → List ℕ
pages [] = []
pages (o ∷ os) = page o ++ pages os

abbrev serial_run : List Outcome → Serial
serial_run os = serial (plan_of plan_p) (class_of (plan_of plan_p)) calls (map is_refused os)

-- the answers; the replies due to visit 0, call 2; the serial order, by clients; the serial value of the cell that T1 writes; and that cell
-- in the snapshot of each visit's desk
abbrev pub Rows : Type 0
Rows = List (asked.Response ⊎ visiting.Forwarding) × List Answered × List ℕ × ℕ × List ℕ

abbrev pub found : List Outcome → Rows
found os = (
  map says os,
  due (plan_of plan_p) 2 (order (serial_run os)) zeros,
  map (λ (e : Finished). e.request.client) (order (serial_run os)),
  get_or (store_after (plan_of plan_p) (order (serial_run os)) zeros) 128 0,
  pages os,
)

-- "T2(1) at desk 1 gives 0 before visit 1, 3 after"; "reply C0000001 00000007 00000003", with nothing told; "The frame twice at desk 1:
-- 14". "A read at one desk may precede, in this order, a global already answered at another": client 6 is answered 0 after client 7's T1,
-- and stands before it. The 3 is in the snapshot of desk 0 by its second visit, when both desks have heard of it
abbrev pub expected : Rows
expected = (
  inl (done 0) ∷ inl asked.waits ∷ inr (visiting.forwarded 7 1) ∷ inl (done 0) ∷ inr (visiting.forwarded 7 0)
      ∷ inr (visiting.visit_refused 14) ∷ inl (done 3) ∷ inr (visiting.forwarded 4 0) ∷ [],
  record { client = 7; reply = record { done = true; number = 3; told0 = 0; told1 = 0; told2 = 0; told3 = 0 } } ∷ [],
  5 ∷ 6 ∷ 7 ∷ 8 ∷ [],
  3,
  0 ∷ 0 ∷ 0 ∷ 3 ∷ [],
)

-- ---- "urgent requests before the others, each sort by arrival"

-- two desks; T0(d, x) and T1(d, x) set cell 128 to x, and T1 is urgent
abbrev pub plan_u : List ℕ
plan_u = 0x12020007 ∷ 0x22200000 ∷ 0x52000000 ∷ 0x42700000 ∷ 0x22200080 ∷ 0x52000000 ∷ 0x42700000 ∷ []

-- of client x
abbrev sets : ℕ → ℕ → Call
sets k x = request 0 x k (0 ∷ x ∷ 0 ∷ 0 ∷ [])

-- an urgent one, another, an urgent one and another arrive at desk 0, and then the token
abbrev pub urgent_calls : List Call
urgent_calls = sets 1 1 ∷ sets 0 2 ∷ sets 1 3 ∷ sets 0 4 ∷ visit_with 0 starting ∷ []

-- the clients that wait after a request, and those of the first four replies of a visit
abbrev clients : Outcome → List ℕ
clients (requested r) = map (λ (t : Request). t.client) (waiting_in r.state.waiting r.queue)
clients (visited v) = get_or v.replies 1 0 ∷ get_or v.replies 8 0 ∷ get_or v.replies 15 0 ∷ get_or v.replies 22 0 ∷ []

-- those that wait after each request and are answered by the visit, and the serial order, by clients
abbrev pub urgent_found : List Outcome → List (List ℕ) × List ℕ
urgent_found os = (
  map clients os,
  map (λ (e : Finished). e.request.client) (order (serial (plan_of plan_u) (class_of (plan_of plan_u)) urgent_calls (map is_refused os))),
)

abbrev pub urgent_expected : List (List ℕ) × List ℕ
urgent_expected = (
  (1 ∷ []) ∷ (1 ∷ 2 ∷ []) ∷ (1 ∷ 3 ∷ 2 ∷ []) ∷ (1 ∷ 3 ∷ 2 ∷ 4 ∷ []) ∷ (1 ∷ 3 ∷ 2 ∷ 4 ∷ []) ∷ [],
  1 ∷ 3 ∷ 2 ∷ 4 ∷ [],
)

-- ---- the premise of the claim is met by both, and the calls give these answers

pub record Course : Type 0 where
  pub proper : ProperFromStart plan_p zeros blank (λ p. zeros) calls
  pub gives : found (outcomes plan_p (start zeros blank (λ p. zeros)) calls) ≡ expected
  pub urgent_proper : ProperFromStart plan_u zeros blank (λ p. zeros) urgent_calls
  pub urgent_gives : urgent_found (outcomes plan_u (start zeros blank (λ p. zeros)) urgent_calls) ≡ urgent_expected
