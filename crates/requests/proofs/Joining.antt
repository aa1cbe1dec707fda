-- A request that waits joins the waiting records by the rule of the queue: those from its place on move up by one.
--     joins_queue          those that wait then are those that waited with the request
--     enqueued_length      the queue keeps its length
--     enqueued_moved       with the records in order, the queue has the record put in at its place
-- Assumes nothing.
use mathlib.Core.Path.{◌≡◌, ◌∙◌, ap}
use mathlib.Core.Bool.{true}
use mathlib.Core.List.{List}
use Prim.Native.Nat.{ℕ, ◌+◌, ◌<◌}
use native.Mathlib.Omega.{arith}
use lib.ListN.{length}
use lib.Seq.{length-take-le, take_at}
use Rattle.std.specs.List.{insert}
use Rattle.lists.specs.Lists.{overwritten}
use Rattle.lists.proofs.Laws.{overwritten_length}
use Rattle.plan.specs.Plan.{Plan}
use Rattle.queue.specs.declared.record.Request.{Request}
use Rattle.desk.specs.Holding.{Holding, waiting_at}
use Rattle.desk.specs.Queueing.{is_urgent, waiting_in, join_queue}
use Rattle.desk.specs.Priority.{urgent_lead}
use Rattle.desk.proofs.Priority.{join_length, joins_at_place}
use Rattle.requests.specs.Request.{enqueued}
use Rattle.requests.specs.Step.{place_in}

module _ (h : Holding) (p : Plan) (r : Request) where
  module _ (room : h.state.waiting < length h.queue) where
    joined_length : length (join_queue (is_urgent p) (waiting_at h) r) ≡ h.state.waiting + 1
    joined_length =
        join_length (is_urgent p) (waiting_at h) r
        ∙ ap (λ (n : ℕ). n + 1) (length-take-le h.state.waiting h.queue (omega arith))

    pub joins_queue : waiting_in (h.state.waiting + 1) (enqueued h p r).queue ≡ join_queue (is_urgent p) (waiting_at h) r
    joins_queue = take_at (join_queue (is_urgent p) (waiting_at h) r) _ (h.state.waiting + 1) joined_length

    pub enqueued_length : length (enqueued h p r).queue ≡ length h.queue
    enqueued_length = overwritten_length (join_queue (is_urgent p) (waiting_at h) r) h.queue (omega (arith, joined_length))

  pub enqueued_moved : urgent_lead (is_urgent p) (waiting_at h) ≡ true
      → (enqueued h p r).queue ≡ overwritten (insert (waiting_at h) (place_in p h.state.waiting h.queue r) r) h.queue
  enqueued_moved e =
      ap (λ (rs : List Request). overwritten rs h.queue) (joins_at_place Request (is_urgent p) (waiting_at h) r e)
