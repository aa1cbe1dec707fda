-- Two queues that questions 5 and 6 do not tell apart: both have 32 records or neither has, and the waiting records are the same.
--     SameWaiting                 that they are such
--     same_buffers, same_fits     question 5 has the same answer, and question 6 of 32 records
--     lent_same                   a queue that is handed over as words with its length, and the queue that is lent of them
--     copied_same                 and any queue of that length with these records in front
-- Assumes nothing.
use mathlib.Core.Path.{◌≡◌, refl, ◌∙◌, sym, ap}
use mathlib.Core.Bool.{Bool, true, false, ◌&&◌}
use mathlib.Core.List.{List}
use mathlib.Core.Logic.{◌≢◌}
use Prim.Native.Nat.{ℕ, ◌%◌, ◌≤◌}
use lib.Dec.{ltb, leb, eqb}
use lib.ListN.{length, take}
use borrow.Author.Tests.{leb-true, ne_eqb}
use Rattle.lists.proofs.Laws.{by_same}
use Rattle.plan.specs.Plan.{Plan}
use Rattle.queue.specs.declared.record.Request.{Request}
use Rattle.queue.specs.Words.{records_in, queue_in, queue_of, words_of}
use Rattle.queue.proofs.Rows.{queue_of_row, length_queue_of, lent_row, lent_none}
use Rattle.desk.specs.declared.state.Desk.{Desk}
use Rattle.desk.specs.Queueing.{waiting_in}
use Rattle.desk.specs.Admission.{desk_buffers_fit, queue_fits, desk_fits}

pub record SameWaiting (waiting : ℕ) (q q' : List Request) : Type 0 where
  pub long : eqb (length q) 32 ≡ eqb (length q') 32
  pub records : length q ≡ 32 → waiting ≤ 32 → waiting_in waiting q ≡ waiting_in waiting q'

-- ---- questions 5 and 6

pub same_buffers : (waiting : ℕ) (cells : List ℕ) (q q' : List Request) → SameWaiting waiting q q'
    → desk_buffers_fit cells q ≡ desk_buffers_fit cells q'
unfolding desk_buffers_fit
same_buffers waiting cells q q' s = ap (λ (b : Bool). eqb (length cells) 1024 && b) s.long

pub same_fits : (p : Plan) (d : Desk) (q q' : List Request) → SameWaiting d.waiting q q' → length q ≡ 32
    → desk_fits p d q ≡ desk_fits p d q'
unfolding desk_fits
same_fits p d q q' s l = ap (λ (b : Bool). ltb d.desk p.desks && b) (few (leb d.waiting 32) refl)
  where
    few : (b : Bool) → leb d.waiting 32 ≡ b
        → (b && (eqb (d.awaited % p.desks) d.desk && queue_fits p d.desk (waiting_in d.waiting q)))
        ≡ (b && (eqb (d.awaited % p.desks) d.desk && queue_fits p d.desk (waiting_in d.waiting q')))
    few true e =
        ap (λ (l : List Request). eqb (d.awaited % p.desks) d.desk && queue_fits p d.desk l)
        (s.records l (leb-true d.waiting 32 e))
    few false e = refl

-- ---- a queue handed over as words with its length

module _ (waiting size : ℕ) (ws : List ℕ) where
  pub lent_same : length ws ≡ 192 → SameWaiting waiting (queue_of size ws) (queue_in (take (words_of size) ws))
  lent_same l = by_same size 32 row none
    where
      row : size ≡ 32 → SameWaiting waiting (queue_of size ws) (queue_in (take (words_of size) ws))
      row e = let q = lent_row size ws l e in record {
        long = ap (λ (r : List Request). eqb (length r) 32) (sym q);
        records = λ k w. ap (waiting_in waiting) (sym q);
      }

      none : size ≢ 32 → SameWaiting waiting (queue_of size ws) (queue_in (take (words_of size) ws))
      none n = record {
        long = ne_eqb (length (queue_of size ws)) 32 (λ e. n (sym (length_queue_of size ws) ∙ e))
            ∙ sym (ap (λ (r : List Request). eqb (length r) 32) (lent_none size ws n));
        records = λ k w. absurd (n (sym (length_queue_of size ws) ∙ k));
      }

  pub copied_same : (q : List Request) → length q ≡ size
      → (size ≡ 32 → waiting ≤ 32 → waiting_in waiting q ≡ waiting_in waiting (records_in ws)) → SameWaiting waiting q (queue_of size ws)
  copied_same q l c = record {
    long = ap (λ (n : ℕ). eqb n 32) (l ∙ sym (length_queue_of size ws));
    records = λ k w. let e : size ≡ 32 = sym l ∙ k in c e w ∙ ap (waiting_in waiting) (sym (queue_of_row size ws e));
  }
