-- Laws of a queue as plain words.
--     queue_in_row, queue_in_none                       192 words are a row of 32 records; others are none
--     length_queue_in, queue_in_short                   so a row has 32 records, and no words have more
--     queue_of_row, queue_of_blank, length_queue_of     the queue of words handed over with its length, which is its length
--     words_of_short, lent_row, lent_none               at most 192 of the words are its own; these stand for the same queue, or for none
--     queue_in_stored_in                                a record stored among the words is stored in the queue
--     words_stored                                      the six words of a record written at once
--     by_fields, by_words                               a record by its fields; one in a row by its words
--     stored_in_length, stored_in_past                  no word is added or lost, and past the end nothing is stored
-- Assumes nothing.
use mathlib.Core.Path.{◌≡◌, refl, sym, ◌∙◌, ap}
use mathlib.Core.Logic.{◌≢◌, ◌⊎◌, inl, inr}
use Prim.Native.Nat.{ℕ, suc, ◌+◌, ◌-◌, ◌*◌, ◌<◌, ◌≤◌}
use native.Mathlib.Omega.{arith}
use mathlib.Core.Bool.{Bool, true, false, cond, ◌&&◌}
use mathlib.Core.List.{List, [], ◌∷◌}
use lib.Dec.{eqb, ltb}
use lib.ListN.{length, get_or, set, take, replicate, length-set, length-replicate}
use lib.Seq.{ext_get_or, get_or-set_same, get_or-set_other, set_out, take_all}
use borrow.Author.Tests.{eqb-true, ltb-true, ltb-false, eq-eqb, ne_eqb, le-ltb}
use Rattle.std.proofs.lemmas.List.Edits.{sets, sets-eq}
use Rattle.std.proofs.lemmas.Slice.{put_mid-paste}
use borrow.Rule.Slice.PartMut.{put_mid}
use Rattle.lists.proofs.Laws.{by_same, by_less, length_tabulate, get_or_tabulate}
use Rattle.queue.specs.declared.record.Request.{Request}
use Rattle.queue.specs.Queue.{no_request}
use Rattle.queue.specs.Words.{record_in, records_in, queue_in, queue_of, words_of, over_record, stored_in}

pub queue_in_row : (ws : List ℕ) → length ws ≡ 192 → queue_in ws ≡ records_in ws
unfolding queue_in
queue_in_row ws e = ap (λ (b : Bool). cond b (records_in ws) []) (eq-eqb (length ws) 192 e)

pub queue_in_none : (ws : List ℕ) → eqb (length ws) 192 ≡ false → queue_in ws ≡ []
unfolding queue_in
queue_in_none ws e = ap (λ (b : Bool). cond b (records_in ws) []) e

pub length_queue_in : (ws : List ℕ) → length ws ≡ 192 → length (queue_in ws) ≡ 32
length_queue_in ws e = ap length (queue_in_row ws e) ∙ length_tabulate 32 (record_in ws)

pub queue_in_short : (ws : List ℕ) → length (queue_in ws) ≤ 32
queue_in_short ws =
    by_same (length ws) 192 (λ e. omega (arith, length_queue_in ws e))
    (λ n. omega (arith, ap length (queue_in_none ws (ne_eqb (length ws) 192 n))))

pub words_of_short : (size : ℕ) → words_of size ≤ 192
words_of_short size = by_test (eqb size 32)
  where
    by_test : (b : Bool) → cond b 192 0 ≤ 192
    by_test true = omega arith
    by_test false = omega arith

-- words that are handed over with the queue's length
module _ (size : ℕ) (ws : List ℕ) where
  pub queue_of_row : size ≡ 32 → queue_of size ws ≡ records_in ws
  unfolding queue_of
  queue_of_row e = ap (λ (b : Bool). cond b (records_in ws) (replicate size no_request)) (eq-eqb size 32 e)

  pub queue_of_blank : size ≢ 32 → queue_of size ws ≡ replicate size no_request
  unfolding queue_of
  queue_of_blank n = ap (λ (b : Bool). cond b (records_in ws) (replicate size no_request)) (ne_eqb size 32 n)

  pub length_queue_of : length (queue_of size ws) ≡ size
  length_queue_of =
      by_same size 32 (λ e. ap length (queue_of_row e) ∙ length_tabulate 32 (record_in ws) ∙ sym e)
      (λ n. ap length (queue_of_blank n) ∙ length-replicate size no_request)

  pub lent_row : length ws ≡ 192 → size ≡ 32 → queue_in (take (words_of size) ws) ≡ queue_of size ws
  lent_row l e =
      ap (λ (b : Bool). queue_in (take (cond b 192 0) ws)) (eq-eqb size 32 e) ∙ ap queue_in (take_all 192 ws (omega arith))
      ∙ queue_in_row ws l ∙ sym (queue_of_row e)

  pub lent_none : size ≢ 32 → queue_in (take (words_of size) ws) ≡ []
  lent_none n = ap (λ (b : Bool). queue_in (take (cond b 192 0) ws)) (ne_eqb size 32 n) ∙ queue_in_none [] refl

-- the words with the first fields of a record stored from word i on
module _ (ws : List ℕ) (i : ℕ) (r : Request) where
  abbrev pub over₁ : List ℕ
  over₁ = set ws i r.client

  abbrev pub over₂ : List ℕ
  over₂ = set over₁ (i + 1) r.transaction

  abbrev pub over₃ : List ℕ
  over₃ = set over₂ (i + 2) r.p0

  abbrev pub over₄ : List ℕ
  over₄ = set over₃ (i + 3) r.p1

  abbrev pub over₅ : List ℕ
  over₅ = set over₄ (i + 4) r.p2

  pub over₁_length : length over₁ ≡ length ws
  over₁_length = length-set ws i r.client

  pub over₂_length : length over₂ ≡ length ws
  over₂_length = length-set over₁ (i + 1) r.transaction ∙ over₁_length

  pub over₃_length : length over₃ ≡ length ws
  over₃_length = length-set over₂ (i + 2) r.p0 ∙ over₂_length

  pub over₄_length : length over₄ ≡ length ws
  over₄_length = length-set over₃ (i + 3) r.p1 ∙ over₃_length

  pub over₅_length : length over₅ ≡ length ws
  over₅_length = length-set over₄ (i + 4) r.p2 ∙ over₄_length

  pub over_length : length (over_record ws i r) ≡ length ws
  over_length = length-set over₅ (i + 5) r.p3 ∙ over₅_length

  -- a word that is none of the record's
  over_other : (j : ℕ) → (j ≡ i → ⊥) → (j ≡ i + 1 → ⊥) → (j ≡ i + 2 → ⊥) → (j ≡ i + 3 → ⊥) → (j ≡ i + 4 → ⊥) → (j ≡ i + 5 → ⊥)
      → get_or (over_record ws i r) j 0 ≡ get_or ws j 0
  over_other j n₀ n₁ n₂ n₃ n₄ n₅ =
      get_or-set_other over₅ (i + 5) j r.p3 0 n₅ ∙ get_or-set_other over₄ (i + 4) j r.p2 0 n₄
      ∙ get_or-set_other over₃ (i + 3) j r.p1 0 n₃
      ∙ get_or-set_other over₂ (i + 2) j r.p0 0 n₂ ∙ get_or-set_other over₁ (i + 1) j r.transaction 0 n₁
      ∙ get_or-set_other ws i j r.client 0 n₀

  -- a word before the record or behind it
  over_away : (j : ℕ) → (j < i) ⊎ (i + 6 ≤ j) → get_or (over_record ws i r) j 0 ≡ get_or ws j 0
  over_away j (inl h) =
      over_other j (λ e. omega arith) (λ e. omega arith) (λ e. omega arith) (λ e. omega arith) (λ e. omega arith) (λ e. omega arith)
  over_away j (inr h) =
      over_other j (λ e. omega arith) (λ e. omega arith) (λ e. omega arith) (λ e. omega arith) (λ e. omega arith) (λ e. omega arith)

  -- the words of the record
  over_client : i < length ws → get_or (over_record ws i r) i 0 ≡ r.client
  over_client h =
      get_or-set_other over₅ (i + 5) i r.p3 0 (λ e. omega arith) ∙ get_or-set_other over₄ (i + 4) i r.p2 0 (λ e. omega arith)
      ∙ get_or-set_other over₃ (i + 3) i r.p1 0 (λ e. omega arith) ∙ get_or-set_other over₂ (i + 2) i r.p0 0 (λ e. omega arith)
      ∙ get_or-set_other over₁ (i + 1) i r.transaction 0 (λ e. omega arith) ∙ get_or-set_same ws i r.client 0 h

  over_transaction : i + 1 < length ws → get_or (over_record ws i r) (i + 1) 0 ≡ r.transaction
  over_transaction h =
      get_or-set_other over₅ (i + 5) (i + 1) r.p3 0 (λ e. omega arith) ∙ get_or-set_other over₄ (i + 4) (i + 1) r.p2 0 (λ e. omega arith)
      ∙ get_or-set_other over₃ (i + 3) (i + 1) r.p1 0 (λ e. omega arith)
      ∙ get_or-set_other over₂ (i + 2) (i + 1) r.p0 0 (λ e. omega arith)
      ∙ get_or-set_same over₁ (i + 1) r.transaction 0 (omega (arith, over₁_length))

  over_p0 : i + 2 < length ws → get_or (over_record ws i r) (i + 2) 0 ≡ r.p0
  over_p0 h =
      get_or-set_other over₅ (i + 5) (i + 2) r.p3 0 (λ e. omega arith) ∙ get_or-set_other over₄ (i + 4) (i + 2) r.p2 0 (λ e. omega arith)
      ∙ get_or-set_other over₃ (i + 3) (i + 2) r.p1 0 (λ e. omega arith)
      ∙ get_or-set_same over₂ (i + 2) r.p0 0 (omega (arith, over₂_length))

  over_p1 : i + 3 < length ws → get_or (over_record ws i r) (i + 3) 0 ≡ r.p1
  over_p1 h =
      get_or-set_other over₅ (i + 5) (i + 3) r.p3 0 (λ e. omega arith) ∙ get_or-set_other over₄ (i + 4) (i + 3) r.p2 0 (λ e. omega arith)
      ∙ get_or-set_same over₃ (i + 3) r.p1 0 (omega (arith, over₃_length))

  over_p2 : i + 4 < length ws → get_or (over_record ws i r) (i + 4) 0 ≡ r.p2
  over_p2 h =
      get_or-set_other over₅ (i + 5) (i + 4) r.p3 0 (λ e. omega arith)
      ∙ get_or-set_same over₄ (i + 4) r.p2 0 (omega (arith, over₄_length))

  over_p3 : i + 5 < length ws → get_or (over_record ws i r) (i + 5) 0 ≡ r.p3
  over_p3 h = get_or-set_same over₅ (i + 5) r.p3 0 (omega (arith, over₅_length))

-- the six words written at once
pub words_stored : (ws vs : List ℕ) (i : ℕ) (r : Request) → i + 6 ≤ length ws
    → vs ≡ r.client ∷ r.transaction ∷ r.p0 ∷ r.p1 ∷ r.p2 ∷ r.p3 ∷ [] → put_mid i (i + 6 - i) ws vs ≡ over_record ws i r
words_stored ws vs i r h e =
    let words : List ℕ = r.client ∷ r.transaction ∷ r.p0 ∷ r.p1 ∷ r.p2 ∷ r.p3 ∷ [] in
    let one : suc i ≡ i + 1 = omega arith in
    let two : suc (suc i) ≡ i + 2 = omega arith in
    let three : suc (suc (suc i)) ≡ i + 3 = omega arith in
    let four : suc (suc (suc (suc i))) ≡ i + 4 = omega arith in
    let five : suc (suc (suc (suc (suc i)))) ≡ i + 5 = omega arith in
    let by_steps : sets ws i words ≡ over_record ws i r = cc in
    put_mid-paste i (i + 6 - i) ws vs words 6 e (omega arith) refl ∙ sym (sets-eq words ws i h) ∙ by_steps

-- a record, by its fields
pub by_fields : (a b : Request) → a.client ≡ b.client → a.transaction ≡ b.transaction → a.p0 ≡ b.p0 → a.p1 ≡ b.p1 → a.p2 ≡ b.p2
    → a.p3 ≡ b.p3 → a ≡ b
by_fields a b c t p q r s = λ i. record { client = c i; transaction = t i; p0 = p i; p1 = q i; p2 = r i; p3 = s i }

-- a record in a row, by its words
pub by_words : (ws vs : List ℕ) (a b : ℕ) → ((k : ℕ) → k < 6 → get_or ws (a * 6 + k) 0 ≡ get_or vs (b * 6 + k) 0)
    → record_in ws a ≡ record_in vs b
by_words ws vs a b h =
    let first : get_or ws (a * 6) 0 ≡ get_or vs (b * 6) 0 =
    ap (λ (i : ℕ). get_or ws i 0) (omega arith) ∙ h 0 (omega arith) ∙ ap (λ (i : ℕ). get_or vs i 0) (omega arith) in
    by_fields (record_in ws a) (record_in vs b) first (h 1 (omega arith)) (h 2 (omega arith)) (h 3 (omega arith)) (h 4 (omega arith))
    (h 5 (omega arith))

module _ (ws : List ℕ) (at : ℕ) (r : Request) where
  -- the record itself
  own_record : at * 6 + 5 < length ws → record_in (over_record ws (at * 6) r) at ≡ r
  own_record h =
      by_fields (record_in (over_record ws (at * 6) r) at) r (over_client ws (at * 6) r (omega arith))
      (over_transaction ws (at * 6) r (omega arith)) (over_p0 ws (at * 6) r (omega arith)) (over_p1 ws (at * 6) r (omega arith))
      (over_p2 ws (at * 6) r (omega arith)) (over_p3 ws (at * 6) r h)

  -- a word of another record is away from this one's
  apart : (b k : ℕ) → b ≢ at → k < 6 → (b * 6 + k < at * 6) ⊎ (at * 6 + 6 ≤ b * 6 + k)
  apart b k s l = by_less (b * 6 + k) (at * 6) inl (λ h. inr (omega (arith, s)))

  -- another record is as before
  other_record : (b : ℕ) → b ≢ at → record_in (over_record ws (at * 6) r) b ≡ record_in ws b
  other_record b s = by_words (over_record ws (at * 6) r) ws b b (λ k l. over_away ws (at * 6) r (b * 6 + k) (apart b k s l))

  -- the records, one by one
  stored_at : length ws ≡ 192 → at < 32 → (b : ℕ) → b < 32
      → get_or (records_in (over_record ws (at * 6) r)) b no_request ≡ get_or (set (records_in ws) at r) b no_request
  stored_at e h b l =
      get_or_tabulate 32 (record_in (over_record ws (at * 6) r)) b no_request l
      ∙ by_same b at
      (λ s. ap (record_in (over_record ws (at * 6) r)) s ∙ own_record (omega arith)
      ∙ sym (get_or-set_same (records_in ws) at r no_request (omega (arith, length_tabulate 32 (record_in ws))))
      ∙ ap (λ (k : ℕ). get_or (set (records_in ws) at r) k no_request) (sym s))
      (λ s. other_record b s ∙ sym (get_or_tabulate 32 (record_in ws) b no_request l)
      ∙ sym (get_or-set_other (records_in ws) at b r no_request s))

  -- a row with a record stored within it
  stored_row : length ws ≡ 192 → at < 32 → queue_in (over_record ws (at * 6) r) ≡ set (queue_in ws) at r
  stored_row e h =
      queue_in_row (over_record ws (at * 6) r) (over_length ws (at * 6) r ∙ e)
      ∙ ext_get_or no_request (records_in (over_record ws (at * 6) r)) (set (records_in ws) at r)
      (length_tabulate 32 (record_in (over_record ws (at * 6) r))
      ∙ sym (length-set (records_in ws) at r ∙ length_tabulate 32 (record_in ws)))
      (λ b l. stored_at e h b (omega (arith, length_tabulate 32 (record_in (over_record ws (at * 6) r)))))
      ∙ ap (λ (q : List Request). set q at r) (sym (queue_in_row ws e))

  -- past the end of a row, or in what is no row, there is nothing to store
  set_none : length (queue_in ws) ≤ at → set (queue_in ws) at r ≡ queue_in ws
  set_none h = set_out (queue_in ws) at r h

  pub queue_in_stored_in : queue_in (stored_in ws at r) ≡ set (queue_in ws) at r
  unfolding stored_in
  queue_in_stored_in = by_tests (eqb (length ws) 192) (ltb at 32) refl refl
    where
      by_tests : (s t : Bool) → eqb (length ws) 192 ≡ s → ltb at 32 ≡ t
          → queue_in (cond (s && t) (over_record ws (at * 6) r) ws) ≡ set (queue_in ws) at r
      by_tests true true e f = stored_row (eqb-true (length ws) 192 e) (ltb-true at 32 f)
      by_tests true false e f =
          sym (set_none (omega (arith, length_queue_in ws (eqb-true (length ws) 192 e), ltb-false at 32 f)))
      by_tests false t e f =
          queue_in_none ws e ∙ sym (ap (λ (q : List Request). set q at r) (queue_in_none ws e))

  pub stored_in_length : length (stored_in ws at r) ≡ length ws
  unfolding stored_in
  stored_in_length = by_test (eqb (length ws) 192 && ltb at 32)
    where
      by_test : (b : Bool) → length (cond b (over_record ws (at * 6) r) ws) ≡ length ws
      by_test true = over_length ws (at * 6) r
      by_test false = refl

  -- past the end of a row nothing is stored
  pub stored_in_past : length ws ≡ 192 → 32 ≤ at → ws ≡ stored_in ws at r
  unfolding stored_in
  stored_in_past e h = sym (simp (eq-eqb (length ws) 192 e, le-ltb at 32 h))
