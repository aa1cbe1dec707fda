-- Questions 5 and 6: the buffers that every call at a desk is lent, and the desk's state.
use Rattle.std.specs.Prelude.{ℕ, ◌%◌, ◌≡◌, Bool, ◌&&◌, List, [], ltb, leb, eqb, length}
use Rattle.verdict.specs.Verdict.{accepted, is_accepted}
use Rattle.std.specs.List.{list_all}
use Rattle.plan.specs.Plan.{Plan}
use Rattle.plan.specs.Decode.{plan_of}
use Rattle.plan.specs.Admission.{plan_verdict}
use Rattle.operation.specs.Operation.{desk_of}
use Rattle.operation.specs.Admission.{operation_verdict}
use Rattle.operation.specs.Store.{store_size}
use Rattle.conflict.specs.Class.{is_global, class_of}
use Rattle.queue.specs.Queue.{queue_size}
use Rattle.queue.specs.declared.record.Request.{Request}
use Rattle.desk.specs.declared.state.Desk.{Desk}
use Rattle.desk.specs.Queueing.{operation_of, is_urgent, waiting_in}
use Rattle.desk.specs.Priority.{urgent_lead}

-- the plan is accepted, and the request's operation passes 7 and 8
pub record Admitted (ws : List ℕ) (r : Request) : Type 0 where
  pub planned : plan_verdict ws ≡ accepted
  pub passed : operation_verdict (plan_of ws) (operation_of r) ≡ accepted

-- 5: "book exactly 1,024, row exactly 32"
unfoldable pub desk_buffers_fit : List ℕ → List Request → Bool
desk_buffers_fit cells queue = eqb (length cells) store_size && eqb (length queue) queue_size

-- 6: "each waiting record a global operation of this desk"
unfoldable pub waits_here : Plan → ℕ → Request → Bool
waits_here p desk r =
    is_accepted (operation_verdict p (operation_of r))
    && (is_global (class_of p (operation_of r)) && eqb (desk_of p (operation_of r)) desk)

-- 6, of the waiting records: each is such a one, and they are in order
unfoldable pub queue_fits : Plan → ℕ → List Request → Bool
queue_fits p desk waiting = list_all (waits_here p desk) waiting && urgent_lead (is_urgent p) waiting

-- 6: "Is the desk below n, waiting at most 32, the awaited number congruent to the desk modulo n, each waiting record a global operation
-- of this desk?"; "It refuses with 6 a row in which a waiting urgent record follows a waiting one that is not."
unfoldable pub desk_fits : Plan → Desk → List Request → Bool
desk_fits p d queue =
    ltb d.desk p.desks && (leb d.waiting queue_size && (eqb (d.awaited % p.desks) d.desk
    && queue_fits p d.desk (waiting_in d.waiting queue)))

-- 6, of the state alone: no record is asked
abbrev pub state_fits : Plan → Desk → Bool
state_fits p d = desk_fits p d []
