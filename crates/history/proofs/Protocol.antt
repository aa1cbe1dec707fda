-- The protocol of `serial` for a plan: its operations, their classes and runs, and the admission of calls.
-- Assumes nothing.
use Prim.Native.Nat.{ℕ}
use mathlib.Core.Bool.{Bool, true, false, ◌&&◌, cond}
use mathlib.Core.List.{List, []}
use lib.Dec.{ltb, leb, eqb}
use lib.ListN.{length}
use Rattle.verdict.specs.Verdict.{Verdict, ask, ◌then◌, is_accepted}
use Rattle.plan.specs.Plan.{Plan}
use Rattle.plan.specs.Decode.{plan_of}
use Rattle.operation.specs.Operation.{Operation, desk_of, urgent_of, MayRead, MayWrite}
use Rattle.operation.specs.Admission.{IsOperation, operation_verdict}
use Rattle.operation.specs.Store.{Store, store_size}
use Rattle.execution.specs.Run.{Reply, Outcome, declined, run}
use Rattle.conflict.specs.Class.{Class, free, local, global}
use Rattle.frame.specs.Frame.{longest_frame}
use Rattle.frame.specs.Admission.{frame_verdict}
use Rattle.desk.specs.Queueing.{join_queue}
use Rattle.visits.specs.Admission.{turn_verdict}
use Rattle.visits.specs.Waiting.{replies_size}
use Rattle.serial.specs.Desk.{Request, Desk, Call, request, visit}
use Rattle.serial.specs.System.{System}
use Rattle.serial.specs.System as protocol
use Rattle.history.proofs.Operations.{is_operation}

-- how many records the queue of each desk has, and how many words its snapshot: no call changes that
pub record Sizes : Type 0 where
  pub records : ℕ → ℕ
  pub words : ℕ → ℕ

-- what a visit brings besides the visit's number and the updates
pub record Brought : Type 0 where
  pub frame : List ℕ
  pub out : List ℕ
  pub replies : List ℕ

abbrev pub class_seen : Class → protocol.Class
class_seen free = protocol.free
class_seen local = protocol.local
class_seen global = protocol.global

-- 9: "For a global request at its desk: do fewer than 32 wait?"
abbrev pub room_by : Class → Bool → ℕ → Bool
room_by free own waiting = true
room_by local own waiting = true
room_by global true waiting = ltb waiting 32
room_by global false waiting = true

module _ (ws : List ℕ) (class : Operation → Class) (sizes : Sizes) where
  abbrev pub the_plan : Plan
  the_plan = plan_of ws

  -- what is no operation does nothing
  abbrev pub ran : Operation → Store → Outcome
  ran o s = cond (is_operation the_plan o) (run the_plan o s) (declined 0 [])

  -- a waiting request is urgent if its operation is
  abbrev pub urgent_seen : Request Operation → Bool
  urgent_seen r = urgent_of the_plan r.op

  -- 5 for a desk with this store and a queue of as many records as desk p's
  abbrev pub sizes_fit : Store → ℕ → Bool
  sizes_fit s p = eqb (length s) 1024 && eqb (sizes.records p) 32

  -- 5, 7 and 8. Question 6 holds throughout a history
  abbrev pub request_asked : Store → ℕ → Operation → Verdict
  request_asked s p o = ask 5 (sizes_fit s p) then operation_verdict the_plan o

  -- 5 for a snapshot of as many words as desk p's, and for these buffers
  abbrev pub buffers_fit : ℕ → Brought → Bool
  buffers_fit p x = eqb (sizes.words p) store_size && (leb longest_frame (length x.out) && leb replies_size (length x.replies))

  -- 5 and 10 to 15
  abbrev pub visit_asked : Store → ℕ → ℕ → Brought → Verdict
  visit_asked s p awaited x =
      ask 5 (sizes_fit s p && buffers_fit p x)
      then frame_verdict the_plan.desks x.frame
      then turn_verdict (record { desk = p; waiting = 0; awaited = awaited }) x.frame

  abbrev pub admission : Desk Operation → Call Operation Brought → Bool
  admission d (request p r x) =
      is_accepted (request_asked d.store p r.op)
      && room_by (class r.op) (eqb (desk_of the_plan r.op) p) (length d.queue)
  admission d (visit p f x) = eqb f.number d.awaited && is_accepted (visit_asked d.store p d.awaited x)

  abbrev pub system : System
  system =
      record {
        n = the_plan.desks;
        Op = Operation;
        Extra = Brought;
        Reply = Reply;
        desk = desk_of the_plan;
        class = λ o. class_seen (class o);
        Reads = λ o c. IsOperation the_plan o × MayRead the_plan o c;
        Writes = λ o c. IsOperation the_plan o × MayWrite the_plan o c;
        reply = λ o s. (ran o s).reply;
        update = λ o s. (ran o s).update;
        join = join_queue urgent_seen;
        admits = admission;
      }
