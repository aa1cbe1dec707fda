-- What a visit's questions give once all are answered with yes.
-- Assumes nothing.
use mathlib.Core.Path.{◌≡◌}
use mathlib.Core.Bool.{Bool, true, ◌&&◌}
use mathlib.Core.List.{List}
use Prim.Native.Nat.{ℕ}
use lib.Dec.{ltb, leb, eqb}
use lib.ListN.{length}
use borrow.Author.Tests.{leb-true, ltb-true, eqb-true}
use Rattle.verdict.specs.Verdict.{accepted, ask, ◌then◌}
use Rattle.verdict.proofs.Verdicts.{then_accepted, ask_accepted, ask_then_accepted}
use Rattle.std.specs.List.{list_all}
use Rattle.lists.proofs.Laws.{and_fst, and_snd, all_member, member_all}
use Rattle.word.specs.Field.{addressed_desk}
use Rattle.plan.specs.Plan.{Plan}
use Rattle.plan.specs.Decode.{head_of, plan_of}
use Rattle.plan.specs.Admission.{plan_verdict}
use Rattle.frame.specs.Admission.{frame_verdict, frame_visit}
use Rattle.queue.specs.declared.record.Request.{Request}
use Rattle.desk.specs.Holding.{Holding, waiting_at}
use Rattle.desk.specs.Admission.{desk_buffers_fit, waits_here, desk_fits}
use Rattle.desk.proofs.QuestionSix.{fits_each}
use Rattle.visits.specs.Admission.{visit_buffers_fit, turn_verdict}
use Rattle.visits.specs.Visit.{visit_verdict}
use Rattle.visits.specs.Core.{Passable}
use Rattle.visits.specs.Running.{is_operation}
use Rattle.operation.specs.Store.{store_size}
use Rattle.frame.specs.Frame.{longest_frame}
use Rattle.queue.specs.Queue.{queue_size}
use Rattle.visits.specs.Waiting.{replies_size}

-- a waiting record is an operation
operations_here : (p : Plan) (desk : ℕ) (rs : List Request) → list_all (waits_here p desk) rs ≡ true → list_all (is_operation p) rs ≡ true
unfolding waits_here
operations_here p desk rs e =
    member_all (is_operation p) rs (λ r m. and_fst (is_operation p r) _ (all_member (waits_here p desk) rs r e m))

module _ (ws : List ℕ) (h : Holding) (snapshot frame out replies : List ℕ) where
  abbrev buffers_fit : Bool
  buffers_fit = desk_buffers_fit h.cells h.queue && visit_buffers_fit snapshot out replies

  module _ (e : visit_verdict ws h snapshot frame out replies ≡ accepted) where
    -- questions 5, 6 and 10 to 15, behind those of the plan
    from_buffers : (ask 5 buffers_fit then ask 6 (desk_fits (plan_of ws) h.state h.queue) then frame_verdict (plan_of ws).desks frame
        then turn_verdict h.state frame) ≡ accepted
    unfolding visit_verdict
    from_buffers = (then_accepted (plan_verdict ws) _ e).1

    fit : buffers_fit ≡ true
    fit = (ask_then_accepted 5 buffers_fit _ from_buffers).0

    visit_fit : visit_buffers_fit snapshot out replies ≡ true
    visit_fit = and_snd (desk_buffers_fit h.cells h.queue) _ fit

    pub questions_give : Passable ws h frame out replies
    unfolding visit_verdict desk_buffers_fit visit_buffers_fit desk_fits turn_verdict
    questions_give =
        let desk5 = and_fst (desk_buffers_fit h.cells h.queue) _ fit in
        let visit5 = and_snd (eqb (length snapshot) store_size) _ visit_fit in
        let q6 = ask_then_accepted 6 (desk_fits (plan_of ws) h.state h.queue) _ (ask_then_accepted 5 buffers_fit _ from_buffers).1 in
        let w6 = and_snd (ltb h.state.desk (plan_of ws).desks) _ q6.0 in
        let q12 = then_accepted (frame_verdict (plan_of ws).desks frame) _ q6.1 in
        let q13 = ask_then_accepted 13 (eqb (addressed_desk (head_of frame)) h.state.desk) _ q12.1 in
        let q14 = ask_then_accepted 14 (eqb (frame_visit frame) h.state.awaited) _ q13.1 in
        record {
          plan = (then_accepted (plan_verdict ws) _ e).0;
          cells_long = eqb-true (length h.cells) store_size (and_fst _ _ desk5);
          queue_long = eqb-true (length h.queue) queue_size (and_snd (eqb (length h.cells) store_size) _ desk5);
          room = leb-true longest_frame (length out) (and_fst _ _ visit5);
          reply_room = leb-true replies_size (length replies) (and_snd (leb longest_frame (length out)) _ visit5);
          desk = ltb-true h.state.desk (plan_of ws).desks (and_fst _ _ q6.0);
          waiting = leb-true h.state.waiting queue_size (and_fst _ _ w6);
          operations = operations_here (plan_of ws) h.state.desk (waiting_at h) (fits_each (plan_of ws) h.state h.queue q6.0);
          frame = q12.0;
          visit = ltb-true (frame_visit frame) 4294967295 (ask_accepted 15 (ltb (frame_visit frame) 4294967295) q14.1);
        }

    -- and the snapshot has all cells
    pub snapshot_long : length snapshot ≡ store_size
    unfolding visit_buffers_fit
    snapshot_long = eqb-true (length snapshot) store_size (and_fst _ _ visit_fit)
