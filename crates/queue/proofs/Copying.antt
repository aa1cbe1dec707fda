-- The first records of a queue, stored one by one among words that are zero.
--     stored_first_length                       there are 192 words
--     stored_first_start, stored_first_next     no record, and one record more
--     stored_first_bounded                      no record past the 32nd is stored
--     stored_first_all                          at the last of 32 records at most, all are stored
--     copying                                   no record, one more and the last, which the copying loop rests on
--     records_in_stored_in                      a record that is stored among the words of a queue is stored among its records
--     waiting_records                           the records that wait in a queue of 32 are read from its words as from the queue
-- Assumes nothing.
use mathlib.Core.Path.{◌≡◌, refl, sym, ◌∙◌, ap}
use Prim.Native.Nat.{ℕ, zero, suc, ◌+◌, ◌-◌, ◌<◌, ◌≤◌, min}
use native.Mathlib.Nat.{not-suc-le-zero, min-eq_left, min-eq_right}
use native.Mathlib.Numerals.{add-one}
use native.Mathlib.Omega.{arith}
use mathlib.Core.List.{List}
use lib.ListN.{length, get_or, set, take, replicate, length-replicate}
use lib.Seq.{ext_get_or, get_or-take, get_or-set_same, get_or-set_other, length-take-le}
use Rattle.lists.proofs.Laws.{by_same, by_less, length_tabulate}
use Rattle.queue.specs.declared.record.Request.{Request}
use Rattle.queue.specs.Queue.{no_request, record_at}
use Rattle.queue.specs.Words.{record_in, records_in, stored_in, stored_first}
use Rattle.queue.proofs.Rows.{queue_in_row, queue_in_stored_in, stored_in_length, stored_in_past}

module _ (queue : List Request) where
  pub stored_first_length : (n : ℕ) → length (stored_first n queue) ≡ 192
  unfolding stored_first
  stored_first_length zero = length-replicate {A = ℕ} 192 0
  stored_first_length (suc n) = stored_in_length (stored_first n queue) n (record_at queue n) ∙ stored_first_length n

  pub stored_first_start : replicate 192 0 ≡ stored_first 0 queue
  unfolding stored_first
  stored_first_start = refl

  pub stored_first_next : (n : ℕ) → stored_in (stored_first n queue) n (record_at queue n) ≡ stored_first (n + 1) queue
  unfolding stored_first
  stored_first_next n = ap (λ (m : ℕ). stored_first m queue) (sym (add-one n))

  -- past the 32nd record the words stay
  past : (k : ℕ) → stored_first 32 queue ≡ stored_first (32 + k) queue
  past zero = refl
  past (suc k) =
      past k
      ∙ stored_in_past (stored_first (32 + k) queue) (32 + k) (record_at queue (32 + k)) (stored_first_length (32 + k)) (omega arith)
      ∙ stored_first_next (32 + k) ∙ ap (λ (m : ℕ). stored_first m queue) (omega arith)

  pub stored_first_bounded : (n : ℕ) → stored_first (min n 32) queue ≡ stored_first n queue
  stored_first_bounded n =
      by_less n 32 (λ l. ap (λ (m : ℕ). stored_first m queue) (min-eq_left (omega arith)))
      (λ l. ap (λ (m : ℕ). stored_first m queue) (min-eq_right l) ∙ past (n - 32) ∙ ap (λ (m : ℕ). stored_first m queue) (omega arith))

  pub stored_first_all : (n at : ℕ) → min n 32 ≤ at → at ≤ min n 32 → stored_first at queue ≡ stored_first n queue
  stored_first_all n at last ends = ap (λ (m : ℕ). stored_first m queue) (omega arith) ∙ stored_first_bounded n

-- a record that is stored among the words of a queue is stored among its records
pub records_in_stored_in : (ws : List ℕ) (at : ℕ) (r : Request) → length ws ≡ 192
    → records_in (stored_in ws at r) ≡ set (records_in ws) at r
records_in_stored_in ws at r e =
    sym (queue_in_row (stored_in ws at r) (stored_in_length ws at r ∙ e)) ∙ queue_in_stored_in ws at r
    ∙ ap (λ (q : List Request). set q at r) (queue_in_row ws e)

module _ (queue : List Request) where
  -- a record that is stored is read as it is
  records_in_stored_first : (n i : ℕ) → i < n → i < 32 → get_or (records_in (stored_first n queue)) i no_request ≡ record_at queue i
  unfolding stored_first
  records_in_stored_first zero i l h = absurd (not-suc-le-zero l)
  records_in_stored_first (suc n) i l h =
      let ws : List ℕ = stored_first n queue in
      let r : Request = record_at queue n in
      let size : length (records_in ws) ≡ 32 = length_tabulate 32 (record_in ws) in
      ap (λ (rs : List Request). get_or rs i no_request) (records_in_stored_in ws n r (stored_first_length queue n))
      ∙ by_same i n
      (λ s. ap (λ (k : ℕ). get_or (set (records_in ws) n r) k no_request) s
      ∙ get_or-set_same (records_in ws) n r no_request (omega (arith, size)) ∙ ap (record_at queue) (sym s))
      (λ s. get_or-set_other (records_in ws) n i r no_request s ∙ records_in_stored_first n i (omega (arith, s)) h)

  pub waiting_records : (waiting : ℕ) → length queue ≡ 32 → waiting ≤ 32
      → take waiting (records_in (stored_first waiting queue)) ≡ take waiting queue
  waiting_records n e h =
      let rs : List Request = records_in (stored_first n queue) in
      let size : length rs ≡ 32 = length_tabulate 32 (record_in (stored_first n queue)) in
      let front : length (take n rs) ≡ n = length-take-le n rs (omega arith) in
      ext_get_or no_request (take n rs) (take n queue) (front ∙ sym (length-take-le n queue (omega arith)))
      (λ i l. let k : i < n = omega arith in get_or-take n rs i no_request k ∙ records_in_stored_first n i k (omega arith)
      ∙ sym (get_or-take n queue i no_request k))

-- of no record, of one more, and of all
pub ruleset copying = (stored_first_start, stored_first_next, stored_first_all)
