-- What a request leaves, in two parts. Beside the queue it hangs on the queue by questions 5 and 6 alone; the queue is left with the
-- record put in at its place.
--     left_by_verdict      all that is left, by the verdict
--     left_beside          beside the queue: by the verdict
--     result_beside        the same of two queues that questions 5 and 6 do not tell apart
--     waits_only, waits_long, waits_ordered     what is shown by the answer that the request waits
--     else_kept            what is shown by any other
--     queue_left           the queue with the record put in, by the answer
--     left_whole           what is left beside the queue, and that queue, are all that is left
--     stored_left          so what is left of another queue with the same waiting records, stored back, is what is left of the queue
--     by_waiting_records   the other is handed over as words with its length
--     copied_left          the other is lent as words, as many as a queue of its length has
-- Assumes nothing.
use mathlib.Core.Path.{◌≡◌, refl, ◌∙◌, sym, ap, ap₂}
use mathlib.Core.Bool.{Bool, true, false, cond, false≢true}
use mathlib.Core.List.{List, [], ◌++◌, append-nil}
use mathlib.Core.Logic.{◌≢◌}
use Prim.Native.Nat.{ℕ, ◌+◌, ◌≤◌, ◌<◌}
use native.Mathlib.Nat.{min-le_left}
use native.Mathlib.Omega.{arith}
use lib.Dec.{ltb, eqb}
use lib.ListN.{length, take, drop, drop_of_length-le}
use lib.Seq.{length-take-le, take_all}
use borrow.Author.Tests.{eqb-true, ltb-true, eq-eqb, ne_eqb}
use Rattle.verdict.specs.Verdict.{Verdict, accepted, refused, ask, ◌then◌}
use Rattle.verdict.proofs.Verdicts.{then_accepted, ask_then_accepted, then_only_after_yes}
use Rattle.std.specs.List.{insert}
use Rattle.lists.specs.Lists.{overwritten}
use Rattle.lists.proofs.Laws.{and_snd, by_same}
use Rattle.plan.specs.Plan.{Plan}
use Rattle.plan.specs.Decode.{plan_of}
use Rattle.plan.specs.Admission.{plan_verdict}
use Rattle.operation.specs.Operation.{desk_of}
use Rattle.operation.specs.Admission.{operation_verdict}
use Rattle.conflict.specs.Class.{Class, free, local, global, class_of}
use Rattle.queue.specs.declared.record.Request.{Request}
use Rattle.queue.specs.Words.{records_in, queue_in, queue_of, words_of, stored_back}
use Rattle.queue.proofs.Rows.{queue_in_row, queue_of_row, length_queue_in, lent_none}
use Rattle.queue.proofs.StoringBack.{stored_back_empty}
use Rattle.desk.specs.declared.state.Desk.{Desk}
use Rattle.desk.specs.Holding.{Holding, holding}
use Rattle.desk.specs.Queueing.{operation_of, is_urgent, waiting_in, join_queue}
use Rattle.desk.specs.Priority.{urgent_lead, join_place}
use Rattle.desk.specs.Admission.{desk_buffers_fit, desk_fits}
use Rattle.desk.proofs.Priority.{join_place_fits}
use Rattle.desk.proofs.QuestionSix.{fits_ordered}
use Rattle.desk.proofs.SameWaiting.{SameWaiting, same_buffers, same_fits, copied_same}
use Rattle.requests.specs.declared.answer.RequestResult.{RequestResult}
use Rattle.requests.specs.Request.{
  Response,
  is_waits,
  replied,
  redirected,
  request_refused,
  Requested,
  unchanged,
  enqueued,
  routed,
  served,
  request_verdict,
  request_result,
}
use Rattle.requests.specs.Answer.{response_of, requested_of}
use Rattle.requests.specs.Step.{place_in, queue_after, store_from, without_queue}
use Rattle.requests.proofs.Joining.{enqueued_moved}
use Rattle.requests.proofs.StoredBack.{inserted_back}

-- ---- by the verdict

pub left_by_verdict : (ws : List ℕ) (h : Holding) (r : Request) (v : Verdict) → request_verdict ws h r ≡ v
    → request_result ws h r ≡ served h v (plan_of ws) r
unfolding request_result
left_by_verdict ws h r v e = ap (λ (w : Verdict). served h w (plan_of ws) r) e

-- ---- beside the queue

module _ (d : Desk) (cells : List ℕ) (q q' : List Request) (p : Plan) (r : Request) where
  routed_beside : (k : Class) (own : Bool)
      → without_queue (routed (holding d cells q) k own p r) ≡ without_queue (routed (holding d cells q') k own p r)
  routed_beside free own = refl
  routed_beside local true = refl
  routed_beside local false = refl
  routed_beside global true = by_room (ltb d.waiting 32)
    where
      by_room : (b : Bool)
          → without_queue (cond b (enqueued (holding d cells q) p r) (unchanged (holding d cells q) (request_refused 9)))
          ≡ without_queue (cond b (enqueued (holding d cells q') p r) (unchanged (holding d cells q') (request_refused 9)))
      by_room true = refl
      by_room false = refl
  routed_beside global false = refl

  served_beside : (v : Verdict) → without_queue (served (holding d cells q) v p r) ≡ without_queue (served (holding d cells q') v p r)
  served_beside accepted = routed_beside (class_of p (operation_of r)) (eqb (desk_of p (operation_of r)) d.desk)
  served_beside (refused question) = refl

-- by the verdict, for which the queue is not asked again
pub left_beside : (ws : List ℕ) (d : Desk) (cells : List ℕ) (q : List Request) (r : Request) (v : Verdict)
    → request_verdict ws (holding d cells q) r ≡ v
    → without_queue (served (holding d cells []) v (plan_of ws) r) ≡ without_queue (request_result ws (holding d cells q) r)
left_beside ws d cells q r v e =
    served_beside d cells [] q (plan_of ws) r v ∙ sym (ap without_queue (left_by_verdict ws (holding d cells q) r v e))

module _ (ws : List ℕ) (d : Desk) (cells : List ℕ) (r : Request) where
  -- question 5 shows that the queue has 32 records
  queue_long_lem : (q : List Request) → desk_buffers_fit cells q ≡ true → length q ≡ 32
  unfolding desk_buffers_fit
  queue_long_lem q h = eqb-true (length q) 32 (and_snd (eqb (length cells) 1024) _ h)

  module _ (q q' : List Request) (s : SameWaiting d.waiting q q') where
    rest : List Request → Verdict
    rest l = ask 6 (desk_fits (plan_of ws) d l) then operation_verdict (plan_of ws) (operation_of r)

    verdict_same : request_verdict ws (holding d cells q) r ≡ request_verdict ws (holding d cells q') r
    unfolding request_verdict rest
    verdict_same =
        ap (◌then◌ (plan_verdict ws))
        (then_only_after_yes 5 (desk_buffers_fit cells q) (rest q) (rest q')
        (λ h. ap (λ (b : Bool). ask 6 b then operation_verdict (plan_of ws) (operation_of r))
        (same_fits (plan_of ws) d q q' s (queue_long_lem q h)))
        ∙ ap (λ (b : Bool). ask 5 b then rest q') (same_buffers d.waiting cells q q' s))

    pub result_beside : without_queue (request_result ws (holding d cells q) r) ≡ without_queue (request_result ws (holding d cells q') r)
    unfolding request_result
    result_beside =
        ap (λ (v : Verdict). without_queue (served (holding d cells q) v (plan_of ws) r)) verdict_same
        ∙ served_beside d cells q q' (plan_of ws) r (request_verdict ws (holding d cells q') r)

-- ---- the queue

-- the state, the queue and the records in order, where the answer is that the request waits; the verdict was no refusal then
pub record Waits (p : Plan) (d : Desk) (q : List Request) (r : Request) (s : Requested) : Type 0 where
  pub room : d.waiting < 32
  pub state : s.state.waiting ≡ d.waiting + 1
  pub queue : s.queue ≡ overwritten (join_queue (is_urgent p) (waiting_in d.waiting q) r) q

-- what any other answer leaves
pub record Keeps (d : Desk) (q : List Request) (s : Requested) : Type 0 where
  pub state : s.state ≡ d
  pub queue : s.queue ≡ q

module _ (d : Desk) (cells : List ℕ) (q : List Request) (p : Plan) (r : Request) where
  abbrev ByAnswer : Requested → Type 0
  ByAnswer s = (is_waits s.answer ≡ true → Waits p d q r s) × (is_waits s.answer ≡ false → Keeps d q s)

  -- any other answer
  other : (a : Response) (cells' : List ℕ) → is_waits a ≡ false → ByAnswer (record { answer = a; state = d; cells = cells'; queue = q })
  other a cells' n = (λ e. absurd (false≢true (sym n ∙ e)), λ e. record { state = refl; queue = refl })

  by_room : (b : Bool) → ltb d.waiting 32 ≡ b
      → ByAnswer (cond b (enqueued (holding d cells q) p r) (unchanged (holding d cells q) (request_refused 9)))
  by_room true e =
      (λ w. record { room = ltb-true d.waiting 32 e; state = refl; queue = refl }, λ w. absurd (false≢true (sym w)))
  by_room false e = other (request_refused 9) cells refl

  by_class : (k : Class) (own : Bool) → ByAnswer (routed (holding d cells q) k own p r)
  by_class free own = other (replied _) _ refl
  by_class local true = other (replied _) _ refl
  by_class local false = other (redirected _) cells refl
  by_class global true = by_room (ltb d.waiting 32) refl
  by_class global false = other (redirected _) cells refl

  by_verdict : (v : Verdict) → ByAnswer (served (holding d cells q) v p r)
  by_verdict accepted = by_class (class_of p (operation_of r)) (eqb (desk_of p (operation_of r)) d.desk)
  by_verdict (refused question) = other (request_refused question) cells refl

  -- a request that is refused does not wait
  accepted_waits : (v : Verdict) → is_waits (served (holding d cells q) v p r).answer ≡ true → v ≡ accepted
  accepted_waits accepted e = refl
  accepted_waits (refused question) e = absurd (false≢true e)

-- all that is left, with another queue
abbrev with_queue : Requested → List Request → Requested
with_queue s q = record { answer = s.answer; state = s.state; cells = s.cells; queue = q }

module _ (ws : List ℕ) (d : Desk) (cells : List ℕ) (q : List Request) (r : Request) where
  -- all that the request leaves
  abbrev all : Requested
  all = request_result ws (holding d cells q) r

  pub waits_only : is_waits all.answer ≡ true → Waits (plan_of ws) d q r all
  unfolding request_result
  waits_only = (by_verdict d cells q (plan_of ws) r (request_verdict ws (holding d cells q) r)).0

  pub else_kept : is_waits all.answer ≡ false → Keeps d q all
  unfolding request_result
  else_kept = (by_verdict d cells q (plan_of ws) r (request_verdict ws (holding d cells q) r)).1

  -- questions 5 and 6 are answered with yes then
  module _ (e : is_waits all.answer ≡ true) where
    passed : (ask 5 (desk_buffers_fit cells q) then ask 6 (desk_fits (plan_of ws) d q) then operation_verdict (plan_of ws) (operation_of r))
        ≡ accepted
    unfolding request_result request_verdict
    passed = (then_accepted (plan_verdict ws) _ (accepted_waits d cells q (plan_of ws) r (request_verdict ws (holding d cells q) r) e)).1

    pub waits_long : length q ≡ 32
    waits_long = queue_long_lem ws d cells r q (ask_then_accepted 5 (desk_buffers_fit cells q) _ passed).0

    pub waits_ordered : urgent_lead (is_urgent (plan_of ws)) (waiting_in d.waiting q) ≡ true
    waits_ordered =
        fits_ordered (plan_of ws) d q (ask_then_accepted 6 (desk_fits (plan_of ws) d q) _
        (ask_then_accepted 5 (desk_buffers_fit cells q) _ passed).1).0

  -- the queue, by the answer
  pub queue_left : all.queue ≡ queue_after all.answer (plan_of ws) d.waiting q r
  queue_left = by_test (is_waits all.answer) refl
    where
      by_test : (b : Bool) → is_waits all.answer ≡ b → all.queue
          ≡ cond b (overwritten (insert (waiting_in d.waiting q) (place_in (plan_of ws) d.waiting q r) r) q) q
      by_test true e = (waits_only e).queue ∙ enqueued_moved (holding d cells q) (plan_of ws) r (waits_ordered e)
      by_test false e = (else_kept e).queue

  pub left_whole : (result : RequestResult) (cells' : List ℕ) (q' : List Request)
      → requested_of result cells' [] ≡ without_queue all → q' ≡ queue_after (response_of result.answer) (plan_of ws) d.waiting q r
      → requested_of result cells' q' ≡ all
  left_whole result cells' q' e k =
      ap (λ (s : Requested). with_queue s q') e
      ∙ ap (with_queue all) (k ∙ ap (λ (s : Requested). queue_after s.answer (plan_of ws) d.waiting q r) e ∙ sym queue_left)

-- ---- the waiting records of a queue, in another that questions 5 and 6 do not tell apart

-- What the request leaves of the other one, in words too if the queue has 32 records, and from where on their records have changed.
module _ (ws : List ℕ) (d : Desk) (cells : List ℕ) (queue lent : List Request) (same : SameWaiting d.waiting queue lent) (r : Request)
    (result : RequestResult) (cells' : List ℕ) (lent' : List Request)
    (left : requested_of result cells' lent' ≡ request_result ws (holding d cells lent) r) (row' : List ℕ)
    (words : length queue ≡ 32 → records_in row' ≡ lent') (from : ℕ)
    (changed : from ≡ store_from (response_of result.answer) (plan_of ws) d.waiting lent r) where
  -- beside the queue the same is left of the queue itself
  beside : requested_of result cells' [] ≡ without_queue (request_result ws (holding d cells queue) r)
  beside = ap without_queue left ∙ sym (result_beside ws d cells r queue lent same)

  abbrev whole : Requested
  whole = request_result ws (holding d cells queue) r

  abbrev end : ℕ
  end = result.state.waiting

  answers : response_of result.answer ≡ whole.answer
  answers = ap (λ (s : Requested). s.answer) beside

  -- it waits: the records from its place on are stored back
  waiting_stored : is_waits (response_of result.answer) ≡ true → stored_back queue row' from end
      ≡ overwritten (insert (waiting_in d.waiting queue) (place_in (plan_of ws) d.waiting queue r) r) queue
  waiting_stored e =
      let w = waits_only ws d cells queue r (ap is_waits (sym answers) ∙ e) in
      let size : length queue ≡ 32 = waits_long ws d cells queue r (ap is_waits (sym answers) ∙ e) in
      let front : take d.waiting queue ≡ take d.waiting lent = same.records size (omega (arith, w.room)) in
      let place : ℕ = place_in (plan_of ws) d.waiting queue r in
      let fits : place ≤ d.waiting = omega (
        arith,
        join_place_fits (is_urgent (plan_of ws)) (take d.waiting queue) r,
        length-take-le d.waiting queue (omega (arith, w.room)),
      ) in
      ap₂ (stored_back queue row')
      (changed ∙ ap (λ (b : Bool). cond b (place_in (plan_of ws) d.waiting lent r) d.waiting) e
      ∙ ap (λ (rs : List Request). join_place (is_urgent (plan_of ws)) rs r) (sym front))
      (ap (λ (s : Requested). s.state.waiting) beside ∙ w.state)
      ∙ inserted_back queue row' lent place d.waiting r fits (omega (arith, w.room)) size
      (words size ∙ ap (λ (s : Requested). s.queue) left ∙ queue_left ws d cells lent r
      ∙ ap (λ (a : Response). queue_after a (plan_of ws) d.waiting lent r) (sym (ap (λ (s : Requested). s.answer) left))
      ∙ ap (λ (b : Bool). cond b (overwritten (insert (waiting_in d.waiting lent) (place_in (plan_of ws) d.waiting lent r) r) lent) lent) e
      ∙ ap (λ (rs : List Request). overwritten (insert rs (join_place (is_urgent (plan_of ws)) rs r) r) lent) (sym front))

  stored : stored_back queue row' from end ≡ queue_after (response_of result.answer) (plan_of ws) d.waiting queue r
  stored = by_test (is_waits (response_of result.answer)) refl
    where
      by_test : (b : Bool) → is_waits (response_of result.answer) ≡ b → stored_back queue row' from end
          ≡ cond b (overwritten (insert (waiting_in d.waiting queue) (place_in (plan_of ws) d.waiting queue r) r) queue) queue
      by_test true e = waiting_stored e
      by_test false e =
          let k = else_kept ws d cells queue r (ap is_waits (sym answers) ∙ e) in
          ap₂ (stored_back queue row') (changed ∙ ap (λ (b : Bool). cond b (place_in (plan_of ws) d.waiting lent r) d.waiting) e)
          (ap (λ (s : Requested). s.state.waiting) beside ∙ ap (λ (t : Desk). t.waiting) k.state)
          ∙ stored_back_empty queue row' d.waiting d.waiting (min-le_left d.waiting 32)

  pub stored_left : requested_of result cells' (stored_back queue row' from end) ≡ request_result ws (holding d cells queue) r
  stored_left = left_whole ws d cells queue r result cells' (stored_back queue row' from end) beside stored

-- ---- a queue handed over with its length

-- what the request of such a queue leaves: the result and the row, from where on the records have changed, and the end
module _ (ws : List ℕ) (d : Desk) (cells : List ℕ) (size : ℕ) (row : List ℕ) (r : Request) (result : RequestResult) (row' : List ℕ)
    (from end : ℕ) (cells' : List ℕ)
    (left : requested_of result cells' (queue_of size row') ≡ request_result ws (holding d cells (queue_of size row)) r)
    (changed : (from ≡ store_from (response_of result.answer) (plan_of ws) d.waiting (queue_of size row) r)
    × (end ≡ result.state.waiting)) where
  module _ (queue : List Request) (l : length queue ≡ size)
      (same : size ≡ 32 → d.waiting ≤ 32 → take d.waiting queue ≡ take d.waiting (records_in row)) where
    pub by_waiting_records : requested_of result cells' (stored_back queue row' from end) ≡ request_result ws (holding d cells queue) r
    by_waiting_records =
        ap (λ (n : ℕ). requested_of result cells' (stored_back queue row' from n)) changed.1
        ∙ stored_left ws d cells queue (queue_of size row) (copied_same d.waiting size row queue l same) r result cells'
        (queue_of size row') left row' (λ k. sym (queue_of_row size row' (sym l ∙ k))) from changed.0

-- ---- the waiting records of a queue, copied

-- The words of a row with the queue's waiting records in front: all of them are lent if the queue has 32 records, and else none.
module _ (ws : List ℕ) (d : Desk) (cells : List ℕ) (queue : List Request) (row : List ℕ) (long : length row ≡ 192)
    (copied : length queue ≡ 32 → d.waiting ≤ 32 → take d.waiting (records_in row) ≡ take d.waiting queue) (own : ℕ)
    (is : own ≡ words_of (length queue)) where
  abbrev lent : List Request
  lent = queue_in (take own row)

  module _ (e : length queue ≡ 32) where
    all_own : own ≡ 192
    all_own = is ∙ ap (λ (b : Bool). cond b 192 0) (eq-eqb (length queue) 32 e)

    all_lent : take own row ≡ row
    all_lent = take_all own row (omega (arith, all_own))

    lent_records : lent ≡ records_in row
    lent_records = ap queue_in all_lent ∙ queue_in_row row long

    lent_all : SameWaiting d.waiting queue lent
    lent_all = record {
      long = ap (λ (n : ℕ). eqb n 32) (e ∙ sym (length_queue_in row long))
          ∙ ap (λ (ws : List ℕ). eqb (length (queue_in ws)) 32) (sym all_lent);
      records = λ k w. sym (copied k w) ∙ ap (waiting_in d.waiting) (sym lent_records);
    }

  lent_none_of : length queue ≢ 32 → SameWaiting d.waiting queue lent
  lent_none_of n = record {
    long = ne_eqb (length queue) 32 n
        ∙ sym (ap (λ (q : List Request). eqb (length q) 32) (ap (λ (m : ℕ). queue_in (take m row)) is ∙ lent_none (length queue) row n));
    records = λ k w. absurd (n k);
  }

  lent_same : SameWaiting d.waiting queue lent
  lent_same = by_same (length queue) 32 lent_all lent_none_of

  -- what the request leaves of the words that are lent, and from where on their records have changed
  module _ (r : Request) (result : RequestResult) (cells' part : List ℕ) (same : length part ≡ length (take own row))
      (left : requested_of result cells' (queue_in part) ≡ request_result ws (holding d cells lent) r) (from : ℕ)
      (changed : from ≡ store_from (response_of result.answer) (plan_of ws) d.waiting lent r) where
    part_read : length queue ≡ 32 → records_in (part ++ drop own row) ≡ queue_in part
    part_read e =
        let past : length row ≤ own = omega (arith, long, all_own e) in
        let words : part ++ drop own row ≡ part = ap (λ (l : List ℕ). part ++ l) (drop_of_length-le row past) ∙ append-nil part in
        ap records_in words ∙ sym (queue_in_row part (same ∙ ap length (all_lent e) ∙ long))

    pub copied_left : requested_of result cells' (stored_back queue (part ++ drop own row) from result.state.waiting)
        ≡ request_result ws (holding d cells queue) r
    copied_left =
        stored_left ws d cells queue lent lent_same r result cells' (queue_in part) left (part ++ drop own row) part_read from changed
