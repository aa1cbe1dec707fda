-- The step of a desk: what a request and a visit leave and answer.
use Rattle.std.specs.Prelude.{ℕ, suc, ◌+◌, Bool, true, false, cond, List, [], ◌∷◌, ◌++◌, eqb}
use Rattle.serial.specs.Store.{Store, Update, apply_update, apply_all}
use Rattle.serial.specs.Frame.{Frame, foreign, tag, untag}
use Rattle.serial.specs.Desk.{Request, Desk, Call, request, visit, Answer, refused, replied, waits, redirected, forwarded}
use Rattle.serial.specs.System.{Class, free, local, global, System}

-- ---- where a request goes

pub data Route : Type 0 where
  immediate enqueue redirect : Route

-- "A free operation runs at any desk and a local one at its own, immediately. A global one at its desk waits .. Elsewhere the answer
-- names the operation's desk."
abbrev pub route_by : Class → Bool → Route
route_by free own = immediate
route_by local true = immediate
route_by local false = redirect
route_by global true = enqueue
route_by global false = redirect

module _ (S : System) where
  open S use {n, Op, Extra, Reply, desk, class, reply, update, join, admits}

  abbrev pub route : ℕ → Op → Route
  route p o = route_by (class o) (eqb (desk o) p)

  -- ---- runs one after another, each on the store as the one before left it

  abbrev pub run_one : Op → Store → Store
  run_one o s = apply_update (update o s) s

  abbrev pub run_all : List (Request Op) → Store → Store
  run_all [] s = s
  run_all (r ∷ rs) s = run_all rs (run_one r.op s)

  abbrev pub replies_of : List (Request Op) → Store → List (ℕ × Reply)
  replies_of [] s = []
  replies_of (r ∷ rs) s = (r.client, reply r.op s) ∷ replies_of rs (run_one r.op s)

  abbrev pub updates_of : List (Request Op) → Store → List Update
  updates_of [] s = []
  updates_of (r ∷ rs) s = update r.op s ∷ updates_of rs (run_one r.op s)

  -- ---- a request

  abbrev pub request_step : Route → Desk Op → Request Op → Desk Op × Answer Reply
  request_step immediate d r = (
    record { store = run_one r.op d.store; queue = d.queue; awaited = d.awaited },
    replied (r.client, reply r.op d.store),
  )
  request_step enqueue d r = (record { store = d.store; queue = join d.queue r; awaited = d.awaited }, waits)
  request_step redirect d r = (d, redirected (desk r.op))

  -- ---- a visit

  -- "A visit drops this desk's own updates, applies the others in order"
  abbrev pub caught_up : ℕ → Desk Op → Frame → Store
  caught_up p d f = apply_all (untag (foreign p f.updates)) d.store

  -- "runs all waiting requests in order, and appends one update for each, empty or not"
  abbrev pub made : ℕ → Desk Op → Frame → List (ℕ × Update)
  made p d f = tag p (updates_of d.queue (caught_up p d f))

  -- "the outgoing frame, addressed for v + 1"
  abbrev pub outgoing : ℕ → Desk Op → Frame → Frame
  outgoing p d f = record { number = suc f.number; updates = foreign p f.updates ++ made p d f }

  -- "Then none waits"; the desk awaits "v + n after visit v"
  abbrev pub visit_step : ℕ → Desk Op → Frame → Desk Op × Answer Reply
  visit_step p d f = (
    record { store = run_all d.queue (caught_up p d f); queue = []; awaited = f.number + n },
    forwarded (outgoing p d f) (replies_of d.queue (caught_up p d f)),
  )

  -- ---- a call

  abbrev pub accepted_step : Desk Op → Call Op Extra → Desk Op × Answer Reply
  accepted_step d (request p r x) = request_step (route p r.op) d r
  accepted_step d (visit p f x) = visit_step p d f

  -- "A "no" gives its number; nothing lent and no state changes"
  abbrev pub serve : Desk Op → Call Op Extra → Desk Op × Answer Reply
  serve d c = cond (admits d c) (accepted_step d c) (d, refused)
