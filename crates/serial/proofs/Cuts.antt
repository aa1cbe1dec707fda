-- The serial order cut behind a global: on the cells that no local operation may write a desk's store is the serial one cut behind the
-- last global that it has heard, and what comes later changes no cut behind a global that every desk has heard.
-- Assumes nothing.
use Prim.Native.Nat.{ℕ, suc, ◌≤◌, ◌<◌}
use mathlib.Core.Path.{◌≡◌, ◌∙◌, ap}
use mathlib.Core.List.{List, [], ◌∷◌}
use native.Mathlib.Omega.{arith}
use native.Mathlib.Nat.{mul-le-mul_right, suc-mul, le_refl}
use lib.ListN.{length}
use Rattle.lists.proofs.Laws.{by_less}
use Rattle.std.specs.List.{AllByRecursion}
use Rattle.serial.specs.Store.{Store, Same}
use Rattle.serial.specs.Frame.{Frame}
use Rattle.serial.specs.Desk.{Request, Desk}
use Rattle.serial.specs.System.{System, Laws}
use Rattle.serial.specs.Step.{immediate}
use Rattle.serial.specs.Order.{Slot, global_run, immediate_run, Finished, span, place_at, place_of, place}
use Rattle.serial.specs.Order.{upto, beyond, insert, sort_onto}
use Rattle.serial.specs.SerialRun.{Serial, ranked, note_request, note_visit, order, store_after}
use Rattle.serial.specs.Snapshot.{Unowned, through}
use Rattle.serial.proofs.Stores.{Same_trans, Same_part}
use Rattle.serial.proofs.Sorting
use Rattle.serial.proofs.Sorting.{Low}
use Rattle.serial.proofs.Conflicts.{Leaves}
use Rattle.serial.proofs.Runs.{store_after_append, store_after_off}
use Rattle.serial.proofs.Invariant.{place_mono}
use Rattle.serial.proofs.Ranked.{ranked_high, ranked_sort}
use Rattle.serial.proofs.Calls.{Replies, Good}
use Rattle.serial.proofs.AtOnce.{LeavesIn, AtOnce}

-- ---- what is put in order by a key: all beyond j has a key past j

module _ {A : Type 0} (key : A → ℕ) where
  abbrev pub Past : ℕ → A → Type 0
  Past j e = j < key e

  abbrev High : List A → Type 0
  High es = (j : ℕ) → AllByRecursion (Past j) (beyond key j es)

  insert_high : (e : A) (es : List A) → High es → High (insert key e es)
  insert_high e es h j =
      by_less j (key e) (λ l. Sorting.beyond_insert key (Past j) j e es l (h j)) (λ l. rw (Sorting.beyond_insert_hi key j e es l) (h j))

  pub sort_high : (es fs : List A) → High es → High (sort_onto key es fs)
  sort_high es [] h = h
  sort_high es (f ∷ fs) h = sort_high (insert key f es) fs (insert_high f es h)

module _ (S : System) (L : Laws S) where
  open S use {n, Op, Reply}

  -- behind the g-th global and up to desk p's place stand no globals
  between : (g p : ℕ) → p < n → (v : Slot) (e : Finished Op) → place_at n g 0 < place_of n v → place_of n v ≤ place_at n g (suc p) →
      LeavesIn S v e → Leaves S (Unowned S) e
  between g p h (global_run k) e l u a =
      by_less g k (λ i. absurd (omega (arith, suc-mul g (span n), mul-le-mul_right {m = suc g} {n = k} (span n) i)))
      (λ i. absurd (omega (arith, mul-le-mul_right {m = k} {n = g} (span n) i)))
  between g p h (immediate_run k q) e l u a = a

  all_between : (g p : ℕ) → p < n → (es : List (Finished Op)) → AllByRecursion (Past (place n) (place_at n g 0)) es →
      AllByRecursion (Low (place n) (place_at n g (suc p))) es → AllByRecursion (AtOnce S) es → AllByRecursion (Leaves S (Unowned S)) es
  all_between g p h [] l u a = tt
  all_between g p h (e ∷ es) l u a =
      (between g p h e.slot e l.0 u.0 a.0, all_between g p h es l.1 u.1 a.1)

  module _ {b : Store} {w : ℕ → Desk Op} {s : Serial Op} {past : Replies Reply} {fs : List Frame} {tk : Frame}
      (k : Good S b w s past fs tk) (p : ℕ) (below : p < n) where
    pub store_at_heard : AllByRecursion (AtOnce S) s.finished →
        Same (Unowned S) (w p).store (store_after S (through S (s.heard p) (order S s)) b)
    store_at_heard a =
        let es : List (Finished Op) = order S s in
        let i : ℕ = place_at n (s.heard p) 0 in
        let j : ℕ = place_at n (s.heard p) (suc p) in
        let rest : List (Finished Op) = beyond (place n) i es in
        Same_trans (w p).store (store_after S (upto (place n) j es) b) (store_after S (upto (place n) i es) b)
        (Same_part (w p).store (store_after S (upto (place n) j es) b) (λ c u r ne o. u r o) (k.inv.serial_at_place p below))
        (rw (
          Sorting.upto_split (place n) i j es (omega arith),
          store_after_append S L (upto (place n) i es) (upto (place n) j rest) b,
        )
        (store_after_off S L (upto (place n) j rest) (store_after S (upto (place n) i es) b)
        (all_between (s.heard p) p below (upto (place n) j rest)
        (Sorting.all_upto (place n) (Past (place n) i) j rest (sort_high (place n) [] s.finished (λ x. tt) i))
        (Sorting.upto_low (place n) j j rest (le_refl j))
        (Sorting.all_upto (place n) (AtOnce S) j rest
        (Sorting.all_beyond (place n) (AtOnce S) i es (Sorting.all_sort (place n) (AtOnce S) [] s.finished tt a))))))

    -- the cut behind a global that desk p has heard, after a run at once there and after a visit there
    pub cut_immediate : (r : Request Op) (m : ℕ) → m ≤ s.heard p →
        through S m (order S (note_request S immediate s p r)) ≡ through S m (order S s)
    cut_immediate r m h =
        let e : Finished Op = record { slot = immediate_run (s.heard p) p; by = s.calls; request = r } in
        ap (through S m) (Sorting.sort_onto_append (place n) [] s.finished (e ∷ []))
        ∙ Sorting.upto_insert_lo (place n) (place_at n m 0) e (order S s) (omega (arith, place_mono S L {j = m} {k = s.heard p} 0 h))

    pub cut_visit : (m : ℕ) → m ≤ s.heard p → through S m (order S (note_visit S s p)) ≡ through S m (order S s)
    cut_visit m h =
        let all : ℕ = length s.globals in
        let last : List (Finished Op) = ranked S s.calls all (s.queues p) in
        ap (through S m)
        (Sorting.sort_onto_append (place n) [] s.finished last
        ∙ ranked_sort S L s.calls all (order S s) (s.queues p) k.inv.low)
        ∙ Sorting.upto_append (place n) (place_at n m 0) (order S s) last
        (ranked_high S L s.calls (place_at n m 0) all (s.queues p)
        (omega (arith, place_mono S L {j = m} {k = all} 0 (omega (arith, k.inv.g_low p)))))
