-- A visit of the token at a desk: everything that the call leaves, for good and bad input alike.
use Rattle.std.specs.Prelude.{ℕ, ◌+◌, ◌&&◌, List, ◌++◌, map, length}
use Rattle.verdict.specs.Verdict.{Verdict, ask, ◌then◌, if_accepted}
use Rattle.lists.specs.Lists.{overwritten}
use Rattle.plan.specs.Plan.{Plan}
use Rattle.plan.specs.Decode.{plan_of}
use Rattle.plan.specs.Admission.{plan_verdict}
use Rattle.operation.specs.Store.{Store}
use Rattle.frame.specs.Frame.{SentUpdate, sent, frame_words}
use Rattle.frame.specs.Admission.{frame_verdict, frame_visit, frame_updates}
use Rattle.token.specs.Forward.{foreign, apply_all}
use Rattle.desk.specs.declared.state.Desk.{Desk}
use Rattle.desk.specs.Holding.{Holding, waiting_at}
use Rattle.desk.specs.Admission.{desk_buffers_fit, desk_fits}
use Rattle.visits.specs.Admission.{visit_buffers_fit, turn_verdict}
use Rattle.visits.specs.Snapshot.{snapshot_taken}
use Rattle.visits.specs.Waiting.{run_all, updates_of, replies_of, replies_words}

-- refused, or "the words of the outgoing frame and the count of replies"
pub data Forwarding : Type 0 where
  forwarded : ℕ → ℕ → Forwarding
  visit_refused : ℕ → Forwarding

-- what a visit leaves: the answer, the state, the store (01: book), the snapshot (02: bulletin), the outgoing words and the reply words.
-- The queue is only read
pub record Visited : Type 0 where
  pub answer : Forwarding
  pub state : Desk
  pub cells : List ℕ
  pub snapshot : List ℕ
  pub out : List ℕ
  pub replies : List ℕ

-- "nothing lent and no state changes"
abbrev pub unchanged : Holding → List ℕ → List ℕ → List ℕ → ℕ → Visited
unchanged h snapshot out replies question =
    record { answer = visit_refused question; state = h.state; cells = h.cells; snapshot = snapshot; out = out; replies = replies }

module _ (p : Plan) (h : Holding) (frame : List ℕ) where
  -- "drops this desk's own updates, applies the others in order"
  abbrev pub caught_up : Store
  caught_up = apply_all (foreign h.state.desk (frame_updates frame)) h.cells

  -- "runs all waiting requests in order, and appends one update for each, empty or not"
  abbrev pub outgoing_updates : List SentUpdate
  outgoing_updates =
      foreign h.state.desk (frame_updates frame) ++ map (sent h.state.desk) (updates_of p (waiting_at h) caught_up)

  -- "the outgoing frame, addressed for v + 1"
  abbrev pub outgoing_frame : List ℕ
  outgoing_frame = frame_words p.desks (frame_visit frame + 1) outgoing_updates

  abbrev pub replying_words : List ℕ
  replying_words = replies_words (replies_of p (waiting_at h) caught_up)

  -- "Then none waits; the row of records is untouched. Words past what is written are untouched." `taken` is the snapshot that is left
  abbrev pub accepted_visit : List ℕ → List ℕ → List ℕ → Visited
  accepted_visit taken out replies = record {
    answer = forwarded (length outgoing_frame) (length (replies_of p (waiting_at h) caught_up));
    state = record { desk = h.state.desk; waiting = 0; awaited = frame_visit frame + p.desks };
    cells = run_all p (waiting_at h) caught_up;
    snapshot = taken;
    out = overwritten outgoing_frame out;
    replies = overwritten replying_words replies;
  }

  -- the snapshot is of "what the desk's book held before the visit"
  abbrev pub visited_by : List ℕ → List ℕ → List ℕ → Verdict → Visited
  visited_by snapshot out replies v =
      if_accepted v (accepted_visit (snapshot_taken p h.cells snapshot) out replies) (unchanged h snapshot out replies)

-- "Visit: 1–6, 10–15.", with 17 after 4
unfoldable pub visit_verdict : List ℕ → Holding → List ℕ → List ℕ → List ℕ → List ℕ → Verdict
visit_verdict ws h snapshot frame out replies =
    plan_verdict ws
    then ask 5 (desk_buffers_fit h.cells h.queue && visit_buffers_fit snapshot out replies)
    then ask 6 (desk_fits (plan_of ws) h.state h.queue)
    then frame_verdict (plan_of ws).desks frame
    then turn_verdict h.state frame

-- the snapshot is lent "to every visit, and to no other call"
unfoldable pub visit_result : List ℕ → Holding → List ℕ → List ℕ → List ℕ → List ℕ → Visited
visit_result ws h snapshot frame out replies =
    visited_by (plan_of ws) h frame snapshot out replies (visit_verdict ws h snapshot frame out replies)
