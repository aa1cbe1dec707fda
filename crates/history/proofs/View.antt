-- Holdings, calls and outcomes of the engine through the eyes of the protocol.
-- Assumes nothing.
use Prim.Native.Nat.{ℕ}
use mathlib.Core.List.{List, [], map}
use lib.ListN.{take}
use Rattle.plan.specs.Decode.{plan_of}
use Rattle.operation.specs.Operation.{Operation}
use Rattle.execution.specs.Run.{Reply}
use Rattle.desk.specs.Holding.{Holding, waiting_at}
use Rattle.requests.specs.Request.{record_of}
use Rattle.requests.specs.Request as asked
use Rattle.visits.specs.Visit.{caught_up}
use Rattle.visits.specs.Visit as visiting
use Rattle.visits.specs.Waiting.{Answered, replies_of}
use Rattle.serial.specs.Desk as desk
use Rattle.history.specs.History.{Call, request, visit, Outcome, requested, visited}
use Rattle.history.proofs.Protocol.{Brought}
use Rattle.history.proofs.Seen.{request_seen, frame_seen, answered_seen}

-- the store, the waiting requests and the awaited number
abbrev pub view : Holding → desk.Desk Operation
view h =
    record {
      store = h.cells;
      queue = map request_seen (waiting_at h);
      awaited = h.state.awaited;
    }

abbrev pub call_seen : Call → desk.Call Operation Brought
call_seen (request p client k ps) = desk.request p (request_seen (record_of client k ps)) (record { frame = []; out = []; replies = [] })
call_seen (visit p frame out replies) = desk.visit p (frame_seen frame) (record { frame = frame; out = out; replies = replies })

abbrev pub response_seen : ℕ → asked.Response → desk.Answer Reply
response_seen client (asked.replied r) = desk.replied (client, r)
response_seen client asked.waits = desk.waits
response_seen client (asked.redirected d) = desk.redirected d
response_seen client (asked.request_refused question) = desk.refused

-- a visit's answer with its outgoing words, and the replies whose words stand in the reply buffer
abbrev pub forwarding_seen : visiting.Forwarding → List ℕ → List Answered → desk.Answer Reply
forwarding_seen (visiting.forwarded words count) out rs = desk.forwarded (frame_seen (take words out)) (map answered_seen rs)
forwarding_seen (visiting.visit_refused question) out rs = desk.refused

abbrev pub outcome_seen : Call → Outcome → List Answered → desk.Answer Reply
outcome_seen (request p client k ps) (requested r) rs = response_seen client r.answer
outcome_seen (request p client k ps) (visited v) rs = desk.refused
outcome_seen (visit p frame out replies) (requested r) rs = desk.refused
outcome_seen (visit p frame out replies) (visited v) rs = forwarding_seen v.answer v.out rs

-- the replies of the requests that a visit runs
abbrev pub replies_run : List ℕ → Holding → Call → List Answered
replies_run ws h (request p client k ps) = []
replies_run ws h (visit p frame out replies) =
    replies_of (plan_of ws) (waiting_at h) (caught_up (plan_of ws) h frame)
