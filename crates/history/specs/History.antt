-- A history of the engine: calls one after another, each at its desk, by the definitions that the contracts of `request` and `visit`
-- cite; how it starts; and the premise on accepted frames.
use Rattle.std.specs.Prelude.{ℕ, ◌^◌, ◌<◌, ◌≡◌, Bool, true, false, get_or, take}
use mathlib.Core.List.{List, [], ◌∷◌, ◌++◌, Memᴰ}
use Rattle.verdict.specs.Verdict.{accepted}
use Rattle.lists.specs.Lists.{assign}
use Rattle.plan.specs.Decode.{plan_of}
use Rattle.plan.specs.Admission.{plan_verdict}
use Rattle.frame.specs.Frame.{starting_frame}
use Rattle.queue.specs.declared.record.Request.{Request}
use Rattle.desk.specs.Answer.{opened, new_desk, new_desk_result}
use Rattle.desk.specs.Holding.{Holding, holding}
use Rattle.requests.specs.Request.{Requested, record_of, request_result}
use Rattle.requests.specs.Request as asked
use Rattle.visits.specs.Visit.{Visited, visit_result}
use Rattle.visits.specs.Visit as visiting

-- ---- the calls

-- "A history is a list of requests and visits, each at a desk"; "client, transaction, parameters, frame words and the sizes and
-- contents of outgoing and reply buffers are any"
pub data Call : Type 0 where
  request : (desk client transaction : ℕ) (params : List ℕ) → Call
  visit : (desk : ℕ) (frame out replies : List ℕ) → Call

-- the desk called
abbrev pub desk_called : Call → ℕ
desk_called (request p client k ps) = p
desk_called (visit p frame out replies) = p

-- all that a call answers and leaves
pub data Outcome : Type 0 where
  requested : Requested → Outcome
  visited : Visited → Outcome

-- "Accepted means not refused."
abbrev pub is_refused_response : asked.Response → Bool
is_refused_response (asked.replied r) = false
is_refused_response asked.waits = false
is_refused_response (asked.redirected d) = false
is_refused_response (asked.request_refused question) = true

abbrev pub is_refused_forwarding : visiting.Forwarding → Bool
is_refused_forwarding (visiting.forwarded words replies) = false
is_refused_forwarding (visiting.visit_refused question) = true

abbrev pub is_refused : Outcome → Bool
is_refused (requested r) = is_refused_response r.answer
is_refused (visited v) = is_refused_forwarding v.answer

-- what a desk keeps from call to call: what every call at it is lent, and the snapshot (02: bulletin), which is lent "to every visit, and
-- to no other call"
pub record Kept : Type 0 where
  pub holding : Holding
  pub snapshot : List ℕ

abbrev pub kept : Holding → List ℕ → Kept
kept h snapshot = record { holding = h; snapshot = snapshot }

-- what the desk holds behind the call. "the row of records is untouched" by a visit
abbrev pub holding_after : Holding → Outcome → Holding
holding_after h (requested r) = holding r.state r.cells r.queue
holding_after h (visited v) = holding v.state v.cells h.queue

-- and the snapshot, which a request is not lent
abbrev pub snapshot_after : List ℕ → Outcome → List ℕ
snapshot_after snapshot (requested r) = snapshot
snapshot_after snapshot (visited v) = v.snapshot

abbrev pub kept_after : Kept → Outcome → Kept
kept_after h o = kept (holding_after h.holding o) (snapshot_after h.snapshot o)

-- the frame that an accepted visit wrote: the first `words` words of its outgoing buffer, `words` being its answer
abbrev pub frame_written : visiting.Forwarding → List ℕ → List (List ℕ)
frame_written (visiting.forwarded words replies) out = take words out ∷ []
frame_written (visiting.visit_refused question) out = []

abbrev pub written : Outcome → List (List ℕ)
written (requested r) = []
written (visited v) = frame_written v.answer v.out

-- ---- the course

module _ (plan : List ℕ) where
  -- the call at a desk that keeps h
  abbrev pub outcome : Kept → Call → Outcome
  outcome h (request p client k ps) = requested (request_result plan h.holding (record_of client k ps))
  outcome h (visit p frame out replies) = visited (visit_result plan h.holding h.snapshot frame out replies)

  abbrev pub outcome_at : (ℕ → Kept) → Call → Outcome
  outcome_at w c = outcome (w (desk_called c)) c

  -- "State, book and row pass from call to call at their desk.", and so does the snapshot
  abbrev pub step_at : (ℕ → Kept) → Call → ℕ → Kept
  step_at w c = assign (desk_called c) (kept_after (w (desk_called c)) (outcome_at w c)) w

  abbrev pub outcomes : (ℕ → Kept) → List Call → List Outcome
  outcomes w [] = []
  outcomes w (c ∷ cs) = outcome_at w c ∷ outcomes (step_at w c) cs

  abbrev pub holdings_after : (ℕ → Kept) → List Call → ℕ → Kept
  holdings_after w [] = w
  holdings_after w (c ∷ cs) = holdings_after (step_at w c) cs

-- ---- the start

-- "At its start each desk is as the new desk call gives it, the books are equal, the rows hold anything.", and so do the snapshots
abbrev pub start : List ℕ → (ℕ → List Request) → (ℕ → List ℕ) → ℕ → Kept
start cells rows snapshots p = kept (holding (new_desk p) cells (rows p)) (snapshots p)

abbrev pub NewDeskStarts : Type 0
NewDeskStarts =
    (plan : List ℕ) → plan_verdict plan ≡ accepted → (p : ℕ) → p < (plan_of plan).desks
    → new_desk_result plan p ≡ opened (new_desk p)

-- ---- the premise

-- parameters are words
abbrev pub WordsFit : Call → Type 0
WordsFit (request p client k ps) = (i : ℕ) → get_or ps i 0 < 2 ^ 32
WordsFit (visit p frame out replies) = Unit {0}

-- the frame is, word for word, one of these
abbrev pub FrameAmong : List (List ℕ) → Call → Type 0
FrameAmong frames (request p client k ps) = Unit {0}
FrameAmong frames (visit p frame out replies) = Memᴰ frame frames

-- "each at a desk below n", and an accepted frame is the starting frame or one that an earlier accepted visit wrote: `frames` are
-- those so far. A refused visit may bring any frame.
abbrev pub Proper : List ℕ → (ℕ → Kept) → List (List ℕ) → List Call → Type 0
Proper plan w frames [] = Unit {0}
Proper plan w frames (c ∷ cs) =
    (desk_called c < (plan_of plan).desks) × WordsFit c
    × (is_refused (outcome_at plan w c) ≡ false → FrameAmong frames c)
    × Proper plan (step_at plan w c) (frames ++ written (outcome_at plan w c)) cs

abbrev pub ProperFromStart : List ℕ → List ℕ → (ℕ → List Request) → (ℕ → List ℕ) → List Call → Type 0
ProperFromStart plan cells rows snapshots cs = Proper plan (start cells rows snapshots) (starting_frame ∷ []) cs
