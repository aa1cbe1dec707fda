-- A record put in among the words of a queue's waiting records, and those that have changed stored back in the queue: it then has the
-- record put in.
-- Assumes nothing.
use mathlib.Core.Path.{◌≡◌, ◌∙◌, sym, ap}
use mathlib.Core.Logic.{inl, inr}
use mathlib.Core.List.{List}
use Prim.Native.Nat.{ℕ, ◌+◌, ◌-◌, ◌≤◌, ◌<◌, min}
use native.Mathlib.Nat.{min-eq_left}
use native.Mathlib.Omega.{arith}
use lib.ListN.{length, get_or, take, drop, get_or-append}
use lib.Seq.{ext_get_or, length-take-le, get_or-take, get_or-drop, get_or-append-add}
use Rattle.std.specs.List.{insert}
use Rattle.lists.specs.Lists.{overwritten}
use Rattle.std.proofs.lemmas.List.Edits.{length-insert}
use Rattle.lists.proofs.Laws.{by_less, get_or_tabulate, overwritten_length, get_or_insert_before}
use Rattle.queue.specs.declared.record.Request.{Request}
use Rattle.queue.specs.Queue.{no_request, record_at}
use Rattle.queue.specs.Words.{record_in, records_in, stored_back}
use Rattle.queue.proofs.StoringBack.{length_stored_back, get_or_stored_back_within, get_or_stored_back_outside}

module _ (queue : List Request) (ws : List ℕ) (behind : List Request) (place waiting : ℕ) (r : Request) (fits : place ≤ waiting)
    (room : waiting < length queue) (long : length queue ≡ 32)
    (left : records_in ws ≡ overwritten (insert (take waiting queue) place r) behind) where
  front : List Request
  front = insert (take waiting queue) place r

  taken : length (take waiting queue) ≡ waiting
  taken = length-take-le waiting queue (omega arith)

  front_length : length front ≡ waiting + 1
  unfolding front
  front_length = length-insert (take waiting queue) place r (omega (arith, taken)) ∙ ap (λ (n : ℕ). n + 1) taken

  -- the record that stands at a place of the queue then
  stands : ℕ → Request
  stands i = get_or (overwritten front queue) i no_request

  in_front : (i : ℕ) → i < waiting + 1 → record_in ws i ≡ stands i
  unfolding stands front
  in_front i h =
      sym (get_or_tabulate 32 (record_in ws) i no_request (omega arith)) ∙ ap (λ (rs : List Request). get_or rs i no_request) left
      ∙ get_or-append front (drop (length front) behind) no_request i (omega (arith, front_length))
      ∙ sym (get_or-append front (drop (length front) queue) no_request i (omega (arith, front_length)))

  before : (i : ℕ) → i < place → record_at queue i ≡ stands i
  unfolding stands front
  before i h =
      sym (get_or-take waiting queue i no_request (omega arith))
      ∙ sym (get_or_insert_before (take waiting queue) place queue r i no_request (omega (arith, taken)) h)

  past : (i : ℕ) → waiting + 1 ≤ i → record_at queue i ≡ stands i
  unfolding stands
  past i h =
      let n : ℕ = i - length front in
      let e : i ≡ length front + n = omega (arith, front_length) in
      ap (λ (j : ℕ). get_or queue j no_request) e ∙ sym (get_or-drop (length front) queue n no_request)
      ∙ sym (get_or-append-add front (drop (length front) queue) n no_request)
      ∙ ap (λ (j : ℕ). get_or (overwritten front queue) j no_request) (sym e)

  end_is : min (waiting + 1) 32 ≡ waiting + 1
  end_is = min-eq_left (omega arith)

  each : (i : ℕ) → i < length queue → record_at (stored_back queue ws place (waiting + 1)) i ≡ stands i
  each i l =
      by_less i (waiting + 1)
      (λ h. by_less i place (λ b. get_or_stored_back_outside queue ws place (waiting + 1) i (inl b) ∙ before i b)
      (λ b. get_or_stored_back_within queue ws place (waiting + 1) i l b (omega (arith, end_is)) ∙ in_front i h))
      (λ h. get_or_stored_back_outside queue ws place (waiting + 1) i (inr (omega (arith, end_is))) ∙ past i h)

  pub inserted_back : stored_back queue ws place (waiting + 1) ≡ overwritten (insert (take waiting queue) place r) queue
  unfolding stands front
  inserted_back =
      let size : length (stored_back queue ws place (waiting + 1)) ≡ length queue = length_stored_back queue ws place (waiting + 1) in
      ext_get_or no_request (stored_back queue ws place (waiting + 1)) (overwritten front queue)
      (size ∙ sym (overwritten_length front queue (omega (arith, front_length)))) (λ i l. each i (omega (arith, size)))
