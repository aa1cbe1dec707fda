-- A visit reads of the queue only whether it has 32 records, and the records that wait: of two queues that agree in these the answer, the
-- state and all that is lent are left the same. So a caller may hand over just the records that wait.
--     visit_same               both have 32 records or neither has, and the same wait
--     by_waiting_records       a queue, and its length with the words of the records that wait
--     by_lent_words            a queue, and the words of the records that wait as far as a queue of its length has words
-- Assumes nothing.
use mathlib.Core.Path.{◌≡◌, refl, ◌∙◌, sym, ap}
use mathlib.Core.Bool.{Bool, true, ◌&&◌}
use mathlib.Core.List.{List}
use Prim.Native.Nat.{ℕ, ◌≤◌}
use lib.Dec.{eqb}
use lib.ListN.{length, take}
use borrow.Author.Tests.{eqb-true}
use Rattle.verdict.specs.Verdict.{Verdict, accepted, refused, ask, ◌then◌}
use Rattle.verdict.proofs.Verdicts.{then_only_after_yes}
use Rattle.lists.proofs.Laws.{and_fst, and_snd}
use Rattle.plan.specs.Decode.{plan_of}
use Rattle.plan.specs.Admission.{plan_verdict}
use Rattle.frame.specs.Admission.{frame_verdict}
use Rattle.queue.specs.declared.record.Request.{Request}
use Rattle.queue.specs.Words.{records_in, queue_in, queue_of, words_of}
use Rattle.desk.specs.declared.state.Desk.{Desk}
use Rattle.desk.specs.Holding.{holding}
use Rattle.desk.specs.Queueing.{waiting_in}
use Rattle.desk.specs.Admission.{desk_buffers_fit, desk_fits}
use Rattle.desk.proofs.SameWaiting.{SameWaiting, same_buffers, same_fits, lent_same, copied_same}
use Rattle.visits.specs.Admission.{visit_buffers_fit, turn_verdict}
use Rattle.visits.specs.Visit.{visit_verdict, visit_result}
use Rattle.visits.proofs.Questions.{questions_give}

module _ (ws : List ℕ) (d : Desk) (cells : List ℕ) (q q' : List Request) (snapshot frame out replies : List ℕ)
    (s : SameWaiting d.waiting q q') where
  -- questions 6 and 10 to 15
  abbrev from_state : List Request → Verdict
  from_state rs = ask 6 (desk_fits (plan_of ws) d rs) then frame_verdict (plan_of ws).desks frame then turn_verdict d frame

  -- all of them: 6 is put only to 32 records
  same_verdict : visit_verdict ws (holding d cells q) snapshot frame out replies
      ≡ visit_verdict ws (holding d cells q') snapshot frame out replies
  unfolding visit_verdict desk_buffers_fit
  same_verdict =
      let fit : Bool → Bool = λ (b : Bool). b && visit_buffers_fit snapshot out replies in
      ap (◌then◌ (plan_verdict ws))
      (then_only_after_yes 5 (fit (desk_buffers_fit cells q)) (from_state q) (from_state q')
      (λ (h : fit (desk_buffers_fit cells q) ≡ true).
      ap (λ (b : Bool). ask 6 b then frame_verdict (plan_of ws).desks frame then turn_verdict d frame) (same_fits (plan_of ws) d q q' s
      (eqb-true (length q) 32 (and_snd (eqb (length cells) 1024) _ (and_fst (desk_buffers_fit cells q) _ h)))))
      ∙ ap (λ (b : Bool). ask 5 (fit b) then from_state q') (same_buffers d.waiting cells q q' s))

  by_verdict : (v : Verdict) → visit_verdict ws (holding d cells q) snapshot frame out replies ≡ v
      → visit_result ws (holding d cells q) snapshot frame out replies ≡ visit_result ws (holding d cells q') snapshot frame out replies
  unfolding visit_result
  by_verdict accepted e =
      let a = questions_give ws (holding d cells q) snapshot frame out replies e in
      rw (e, sym same_verdict ∙ e, s.records a.queue_long a.waiting)
  by_verdict (refused question) e = rw (e, sym same_verdict ∙ e)

  pub visit_same : visit_result ws (holding d cells q) snapshot frame out replies
      ≡ visit_result ws (holding d cells q') snapshot frame out replies
  visit_same = by_verdict (visit_verdict ws (holding d cells q) snapshot frame out replies) refl

module _ (ws : List ℕ) (d : Desk) (cells : List ℕ) (q : List Request) (snapshot frame out replies : List ℕ) where
  pub by_waiting_records : (size : ℕ) (row : List ℕ) → length q ≡ size
      → (size ≡ 32 → d.waiting ≤ 32 → waiting_in d.waiting q ≡ waiting_in d.waiting (records_in row))
      → visit_result ws (holding d cells (queue_of size row)) snapshot frame out replies
      ≡ visit_result ws (holding d cells q) snapshot frame out replies
  by_waiting_records size row l same =
      sym (visit_same ws d cells q (queue_of size row) snapshot frame out replies (copied_same d.waiting size row q l same))

  pub by_lent_words : (row : List ℕ) → length row ≡ 192
      → (length q ≡ 32 → d.waiting ≤ 32 → waiting_in d.waiting q ≡ waiting_in d.waiting (records_in row))
      → visit_result ws (holding d cells (queue_in (take (words_of (length q)) row))) snapshot frame out replies
      ≡ visit_result ws (holding d cells q) snapshot frame out replies
  by_lent_words row long same =
      sym (visit_same ws d cells (queue_of (length q) row) (queue_in (take (words_of (length q)) row)) snapshot frame out replies
      (lent_same d.waiting (length q) row long))
      ∙ by_waiting_records (length q) row refl same
