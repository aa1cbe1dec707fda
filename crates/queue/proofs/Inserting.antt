-- A record put in before others of a row, which move up.
--     inserted_record      the words have moved up by one record from its place on, and it is stored at its place
-- Assumes nothing.
use mathlib.Core.Path.{◌≡◌, sym, ◌∙◌, ap}
use mathlib.Core.Logic.{◌≢◌, ◌⊎◌, inl, inr, ⊎_elim}
use Prim.Native.Nat.{ℕ, ◌+◌, ◌-◌, ◌*◌, ◌<◌, ◌≤◌}
use native.Mathlib.Omega.{arith}
use mathlib.Core.List.{List}
use lib.ListN.{length, get_or, set, take, length-set}
use lib.Seq.{ext_get_or, get_or-take, get_or-set_same, get_or-set_other, length-take-le}
use Rattle.std.specs.List.{CopiedTo, SameBelow, SameFrom, insert}
use Rattle.std.proofs.lemmas.List.Edits.{length-insert, get_or-insert_below, get_or-insert_at, get_or-insert_above}
use Rattle.lists.specs.Lists.{overwritten}
use Rattle.lists.proofs.Laws.{by_same, by_less, length_tabulate, get_or_tabulate, overwritten_length, get_or_overwritten, get_or_behind}
use Rattle.queue.specs.declared.record.Request.{Request}
use Rattle.queue.specs.Queue.{no_request, record_at}
use Rattle.queue.specs.Words.{record_in, records_in, stored_in}
use Rattle.queue.proofs.Copying.{records_in_stored_in}
use Rattle.queue.proofs.Rows.{by_words}

-- the words vs are those of ws, where the records from place p up to place w have moved up
module _ (ws vs : List ℕ) (p w : ℕ) (low : p ≤ w) (high : w < 32) (long : length ws ≡ 192) (same : length vs ≡ length ws)
    (moved : CopiedTo ws vs (p * 6) ((p + 1) * 6) (w * 6 - p * 6)) (below : SameBelow ws vs ((p + 1) * 6))
    (behind : SameFrom ws vs ((p + 1) * 6 + (w * 6 - p * 6))) where
  moved_record : (b : ℕ) → p < b → b ≤ w → record_in vs b ≡ record_in ws (b - 1)
  moved_record b l u =
      by_words vs ws b (b - 1)
      (λ k h. moved (b * 6 + k) 0 (omega arith) (omega arith) ∙ ap (λ (n : ℕ). get_or ws n 0) (omega arith))

  kept_record : (b : ℕ) → (b ≤ p) ⊎ (w < b) → record_in vs b ≡ record_in ws b
  kept_record b o =
      by_words vs ws b b
      (λ k h. ⊎_elim (λ (l : b ≤ p). below (b * 6 + k) 0 (omega arith)) (λ (u : w < b). behind (b * 6 + k) 0 (omega arith)) o)

  module _ (r : Request) where
    abbrev old : List Request
    old = records_in ws

    -- the records that wait, with the new one, and behind them the others
    abbrev front : List Request
    front = insert (take w old) p r

    abbrev new : List Request
    new = overwritten front old

    waiting : length (take w old) ≡ w
    waiting = length-take-le w old (omega (arith, length_tabulate 32 (record_in ws)))

    size : length front ≡ w + 1
    size = length-insert (take w old) p r (omega (arith, waiting)) ∙ ap (λ (n : ℕ). n + 1) waiting

    in_front : (b : ℕ) → b ≤ w → record_at new b ≡ record_at front b
    in_front b u = get_or_overwritten front old b no_request (omega (arith, size))

    record_before : (b : ℕ) → b < p → record_at new b ≡ record_in vs b
    record_before b l =
        in_front b (omega arith) ∙ get_or-insert_below (take w old) p r no_request b l (omega (arith, waiting))
        ∙ get_or-take w old b no_request (omega arith) ∙ get_or_tabulate 32 (record_in ws) b no_request (omega arith)
        ∙ sym (kept_record b (inl (omega arith)))

    record_up : (b : ℕ) → p < b → b ≤ w → record_at new b ≡ record_in vs b
    record_up b l u =
        in_front b u ∙ ap (record_at front) (omega arith)
        ∙ get_or-insert_above (take w old) p r no_request (b - 1) (omega arith) (omega (arith, waiting))
        ∙ get_or-take w old (b - 1) no_request (omega arith)
        ∙ get_or_tabulate 32 (record_in ws) (b - 1) no_request (omega arith) ∙ sym (moved_record b l u)

    record_behind : (b : ℕ) → w < b → b < 32 → record_at new b ≡ record_in vs b
    record_behind b l h =
        get_or_behind front old b no_request (omega (arith, size))
        ∙ get_or_tabulate 32 (record_in ws) b no_request h ∙ sym (kept_record b (inr l))

    record_other : (b : ℕ) → b ≢ p → b < 32 → record_at new b ≡ record_in vs b
    record_other b n h =
        by_less b p (record_before b)
        (λ l. by_less w b (λ u. record_behind b u h) (λ u. record_up b (omega (arith, n)) u))

    each : (b : ℕ) → b < 32 → record_at (set (records_in vs) p r) b ≡ record_at new b
    each b h =
        by_same b p
        (λ s. ap (record_at (set (records_in vs) p r)) s
        ∙ get_or-set_same (records_in vs) p r no_request (omega (arith, length_tabulate 32 (record_in vs)))
        ∙ sym (ap (record_at new) s ∙ in_front p low ∙ get_or-insert_at (take w old) p r no_request (omega (arith, waiting))))
        (λ n. get_or-set_other (records_in vs) p b r no_request n ∙ get_or_tabulate 32 (record_in vs) b no_request h
        ∙ sym (record_other b n h))

    pub inserted_record : records_in (stored_in vs p r) ≡ overwritten (insert (take w (records_in ws)) p r) (records_in ws)
    inserted_record =
        let stored = length-set (records_in vs) p r ∙ length_tabulate 32 (record_in vs) in
        let whole = overwritten_length front old (omega (arith, size, length_tabulate 32 (record_in ws))) in
        records_in_stored_in vs p r (same ∙ long)
        ∙ ext_get_or no_request (set (records_in vs) p r) new (stored ∙ sym (whole ∙ length_tabulate 32 (record_in ws)))
        (λ b l. each b (omega (arith, stored)))
