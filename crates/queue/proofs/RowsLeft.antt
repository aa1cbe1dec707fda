-- The words of a row are those of its records, so a row can be told by the queue that it is left as.
--     records_in_injective      two rows with the same records are the same
--     records_in_stored_all     the words of 32 records have these records
--     row_left_none             words that are no row stay as they are
--     row_left_queue_in         so words that are left as the queue which they stand for stay as they are
--     row_left_of_lem           words that are changed only where they are a row are left as the queue that they then stand for
-- Assumes nothing.
use mathlib.Core.Path.{◌≡◌, refl, sym, ◌∙◌, ap}
use Prim.Native.Nat.{ℕ, ◌+◌, ◌*◌, ◌/◌, ◌%◌, ◌<◌, zero, suc}
use native.Mathlib.Omega.{arith}
use mathlib.Core.Bool.{Bool, false, cond}
use mathlib.Core.List.{List, [], ◌∷◌}
use lib.Dec.{eqb}
use lib.ListN.{length, get_or}
use lib.Seq.{ext_get_or, take_all}
use borrow.Author.Tests.{eq-eqb, ne_eqb}
use Rattle.lists.proofs.Laws.{by_same, length_tabulate, get_or_tabulate}
use Rattle.queue.specs.declared.record.Request.{Request}
use Rattle.queue.specs.Queue.{no_request, record_at}
use Rattle.queue.specs.Words.{record_in, records_in, queue_in, stored_first, row_left}
use Rattle.queue.proofs.Copying.{stored_first_length, waiting_records}
use Rattle.queue.proofs.Rows.{queue_in_row}

-- the words of a record
abbrev words : Request → List ℕ
words r = r.client ∷ r.transaction ∷ r.p0 ∷ r.p1 ∷ r.p2 ∷ r.p3 ∷ []

-- word k of a record, among those of its row
word_of : (ws : List ℕ) (a k : ℕ) → k < 6 → get_or ws (a * 6 + k) 0 ≡ get_or (words (record_in ws a)) k 0
word_of ws a zero h = ap (λ (i : ℕ). get_or ws i 0) (omega arith)
word_of ws a (suc zero) h = refl
word_of ws a (suc (suc zero)) h = refl
word_of ws a (suc (suc (suc zero))) h = refl
word_of ws a (suc (suc (suc (suc zero)))) h = refl
word_of ws a (suc (suc (suc (suc (suc zero))))) h = refl
word_of ws a (suc (suc (suc (suc (suc (suc k)))))) h = absurd (omega arith)

module _ (ws vs : List ℕ) (e : records_in ws ≡ records_in vs) where
  same_record : (a : ℕ) → a < 32 → record_in ws a ≡ record_in vs a
  same_record a h =
      sym (get_or_tabulate 32 (record_in ws) a no_request h) ∙ ap (λ (rs : List Request). record_at rs a) e
      ∙ get_or_tabulate 32 (record_in vs) a no_request h

  same_word : (a k : ℕ) → a < 32 → k < 6 → get_or ws (a * 6 + k) 0 ≡ get_or vs (a * 6 + k) 0
  same_word a k h l =
      word_of ws a k l ∙ ap (λ (r : Request). get_or (words r) k 0) (same_record a h) ∙ sym (word_of vs a k l)

  pub records_in_injective : length ws ≡ 192 → length vs ≡ 192 → ws ≡ vs
  records_in_injective l m =
      ext_get_or 0 ws vs (l ∙ sym m) (λ j h.
      let parts : j ≡ j / 6 * 6 + j % 6 = omega arith in
      ap (λ (i : ℕ). get_or ws i 0) parts
      ∙ same_word (j / 6) (j % 6) (omega arith) (omega arith) ∙ ap (λ (i : ℕ). get_or vs i 0) (sym parts))

pub records_in_stored_all : (queue : List Request) → length queue ≡ 32 → records_in (stored_first 32 queue) ≡ queue
records_in_stored_all queue e =
    let rs : List Request = records_in (stored_first 32 queue) in
    let size : length rs ≡ 32 = length_tabulate 32 (record_in (stored_first 32 queue)) in
    sym (take_all 32 rs (omega arith)) ∙ waiting_records queue 32 e (omega arith) ∙ take_all 32 queue (omega arith)

module _ (ws : List ℕ) (queue : List Request) where
  row_left_all : length ws ≡ 192 → row_left ws queue ≡ stored_first 32 queue
  unfolding row_left
  row_left_all e = ap (λ (b : Bool). cond b (stored_first 32 queue) ws) (eq-eqb (length ws) 192 e)

  pub row_left_none : eqb (length ws) 192 ≡ false → row_left ws queue ≡ ws
  unfolding row_left
  row_left_none e = ap (λ (b : Bool). cond b (stored_first 32 queue) ws) e

-- the words of a row's records are the row
stored_all_records : (ws : List ℕ) → length ws ≡ 192 → stored_first 32 (records_in ws) ≡ ws
stored_all_records ws e =
    let rs : List Request = records_in ws in
    records_in_injective (stored_first 32 rs) ws (records_in_stored_all rs (length_tabulate 32 (record_in ws)))
    (stored_first_length rs 32) e

pub row_left_of_lem : (ws vs : List ℕ) → length vs ≡ length ws → (eqb (length ws) 192 ≡ false → vs ≡ ws) → vs ≡ row_left ws (queue_in vs)
row_left_of_lem ws vs l same =
    by_same (length ws) 192
    (λ e. sym (row_left_all ws (queue_in vs) e ∙ ap (stored_first 32) (queue_in_row vs (l ∙ e)) ∙ stored_all_records vs (l ∙ e)))
    (λ n. same (ne_eqb (length ws) 192 n) ∙ sym (row_left_none ws (queue_in vs) (ne_eqb (length ws) 192 n)))

pub row_left_queue_in : (ws : List ℕ) → row_left ws (queue_in ws) ≡ ws
row_left_queue_in ws = sym (row_left_of_lem ws ws refl (λ _. refl))
