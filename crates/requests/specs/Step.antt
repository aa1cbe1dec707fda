-- The core of a request. It is lent the queue as words, and says from which place on the records have changed.
--     place_in           the place at which a request joins those that wait
--     queue_after        the queue behind a response: where it waits, the record is put in at its place
--     store_from         the place from which on the records have changed, up to the last that waits then
--     without_queue      what a request leaves beside the queue
--     opening_verdict    questions 1 to 4, 17 and 5
use Rattle.std.specs.Prelude.{ℕ, cond, List, []}
use Rattle.verdict.specs.Verdict.{Verdict, ask, ◌then◌}
use Rattle.std.specs.List.{insert}
use Rattle.lists.specs.Lists.{overwritten}
use Rattle.plan.specs.Plan.{Plan}
use Rattle.plan.specs.Admission.{plan_verdict}
use Rattle.queue.specs.declared.record.Request.{Request}
use Rattle.queue.specs.Words.{queue_in}
use Rattle.desk.specs.Queueing.{is_urgent, waiting_in}
use Rattle.desk.specs.Priority.{join_place}
use Rattle.desk.specs.Admission.{desk_buffers_fit}
use Rattle.requests.specs.Request.{Response, is_waits, Requested}

-- the place at which a request joins the first `waiting` records of a queue
abbrev pub place_in : Plan → ℕ → List Request → Request → ℕ
place_in p waiting queue r = join_place (is_urgent p) (waiting_in waiting queue) r

-- "An arriving urgent request moves the waiting others up by a place.": those from its place on stand one place behind, and the record at
-- place `waiting` is overwritten
abbrev pub queue_after : Response → Plan → ℕ → List Request → Request → List Request
queue_after a p waiting queue r =
    cond (is_waits a) (overwritten (insert (waiting_in waiting queue) (place_in p waiting queue r) r) queue) queue

-- where none has changed it is the place behind those that wait
abbrev pub store_from : Response → Plan → ℕ → List Request → Request → ℕ
store_from a p waiting queue r = cond (is_waits a) (place_in p waiting queue r) waiting

-- what a request leaves beside the queue
abbrev pub without_queue : Requested → Requested
without_queue s = record { answer = s.answer; state = s.state; cells = s.cells; queue = [] }

-- questions 1 to 4, 17 and 5, of a queue of words
unfoldable pub opening_verdict : List ℕ → List ℕ → List ℕ → Verdict
opening_verdict ws cells row = plan_verdict ws then ask 5 (desk_buffers_fit cells (queue_in row))
