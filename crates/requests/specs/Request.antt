-- A request at a desk: everything that the call leaves, for good and bad input alike.
use Rattle.std.specs.Prelude.{ℕ, ◌+◌, Bool, true, false, cond, List, ltb, eqb, get_or}
use Rattle.verdict.specs.Verdict.{Verdict, ask, ◌then◌, if_accepted}
use Rattle.lists.specs.Lists.{overwritten}
use Rattle.plan.specs.Plan.{Plan}
use Rattle.plan.specs.Decode.{plan_of}
use Rattle.plan.specs.Admission.{plan_verdict}
use Rattle.operation.specs.Operation.{Operation, desk_of}
use Rattle.operation.specs.Admission.{operation_verdict}
use Rattle.operation.specs.Store.{apply_update}
use Rattle.execution.specs.Run.{Reply, run}
use Rattle.conflict.specs.Class.{Class, free, local, global, class_of}
use Rattle.queue.specs.declared.record.Request.{Request}
use Rattle.desk.specs.declared.state.Desk.{Desk}
use Rattle.desk.specs.Holding.{Holding, waiting_at}
use Rattle.desk.specs.Queueing.{operation_of, is_urgent, join_queue}
use Rattle.desk.specs.Admission.{desk_buffers_fit, desk_fits}
use Rattle.queue.specs.Queue.{queue_size}

-- replied (done or declined, with the number and the told ones), waiting, elsewhere with the operation's desk, or refused with the
-- question's number
pub data Response : Type 0 where
  replied : Reply → Response
  waits : Response
  redirected : ℕ → Response
  request_refused : ℕ → Response

-- the request was told to wait
abbrev pub is_waits : Response → Bool
is_waits (replied reply) = false
is_waits waits = true
is_waits (redirected desk) = false
is_waits (request_refused question) = false

-- what a request leaves: the answer, the state, the store (01: book) and the queue (01: row)
pub record Requested : Type 0 where
  pub answer : Response
  pub state : Desk
  pub cells : List ℕ
  pub queue : List Request

module _ (h : Holding) where
  -- "nothing lent and no state changes"
  abbrev pub unchanged : Response → Requested
  unchanged a = record { answer = a; state = h.state; cells = h.cells; queue = h.queue }

  -- a free or a local operation runs, "immediately"
  abbrev pub ran_now : Plan → Operation → Requested
  ran_now p o = record {
    answer = replied (run p o h.cells).reply;
    state = h.state;
    cells = apply_update (run p o h.cells).update h.cells;
    queue = h.queue;
  }

  -- a global one waits: it joins those that wait "in the order laid down for the row", and they are written over the front of the queue
  abbrev pub enqueued : Plan → Request → Requested
  enqueued p r = record {
    answer = waits;
    state = record { desk = h.state.desk; waiting = h.state.waiting + 1; awaited = h.state.awaited };
    cells = h.cells;
    queue = overwritten (join_queue (is_urgent p) (waiting_at h) r) h.queue;
  }

  -- where the operation goes, by its class and by whether this desk is its own
  abbrev pub routed : Class → Bool → Plan → Request → Requested
  routed free own p r = ran_now p (operation_of r)
  routed local true p r = ran_now p (operation_of r)
  routed local false p r = unchanged (redirected (desk_of p (operation_of r)))
  -- 9: "For a global request at its desk: do fewer than 32 wait?"
  routed global true p r = cond (ltb h.state.waiting queue_size) (enqueued p r) (unchanged (request_refused 9))
  routed global false p r = unchanged (redirected (desk_of p (operation_of r)))

  abbrev pub served : Verdict → Plan → Request → Requested
  served v p r =
      if_accepted v (routed (class_of p (operation_of r)) (eqb (desk_of p (operation_of r)) h.state.desk) p r)
      (λ question. unchanged (request_refused question))

-- the record of a request
abbrev pub record_of : ℕ → ℕ → List ℕ → Request
record_of client k ps =
    record { client = client; transaction = k; p0 = get_or ps 0 0; p1 = get_or ps 1 0; p2 = get_or ps 2 0; p3 = get_or ps 3 0 }

-- "Request: 1–8, then "elsewhere", then 9.", with 17 after 4
unfoldable pub request_verdict : List ℕ → Holding → Request → Verdict
request_verdict ws h r =
    plan_verdict ws
    then ask 5 (desk_buffers_fit h.cells h.queue)
    then ask 6 (desk_fits (plan_of ws) h.state h.queue)
    then operation_verdict (plan_of ws) (operation_of r)

unfoldable pub request_result : List ℕ → Holding → Request → Requested
request_result ws h r = served h (request_verdict ws h r) (plan_of ws) r
