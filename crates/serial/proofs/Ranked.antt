-- A queue that becomes the last globals: where these stand in the serial order.
-- Assumes nothing.
use Prim.Native.Nat.{ℕ, suc, ◌+◌, ◌≤◌, ◌<◌}
use mathlib.Core.Path.{◌≡◌, sym, ◌∙◌, ap, subst}
use mathlib.Core.List.{List, [], ◌∷◌, ◌++◌, append_assoc, append-nil}
use native.Mathlib.Omega.{arith}
use native.Mathlib.Nat.{suc-mul, add-zero}
use lib.ListN.{length}
use Rattle.std.specs.List.{AllByRecursion}
use Rattle.lists.proofs.Laws.{All_append, All_part}
use Rattle.serial.specs.Desk.{Request}
use Rattle.serial.specs.System.{System, Laws}
use Rattle.serial.specs.Order.{Finished, global_run, span, place_at, place, beyond, sort_onto}
use Rattle.serial.specs.SerialRun.{ranked}
use Rattle.serial.proofs.Sorting
use Rattle.serial.proofs.Sorting.{Low}
use Rattle.serial.proofs.Invariant.{place_mono}

module _ (S : System) (L : Laws S) where
  open S use {n, Op}

  -- ---- A queue that becomes the last globals

  pub ranked_low : (i k : ℕ) (ts : List (Request Op)) → AllByRecursion (Low (place n) (place_at n (k + length ts) 0)) (ranked S i k ts)
  ranked_low i k [] = tt
  ranked_low i k (t ∷ ts) = (
    place_mono S L {j = suc k} {k = k + suc (length ts)} 0 (omega arith),
    All_part (Low (place n) (place_at n (suc k + length ts) 0)) (Low (place n) (place_at n (k + suc (length ts)) 0)) (ranked S i (suc k) ts)
        (λ e h. omega (arith, place_mono S L {j = suc k + length ts} {k = k + suc (length ts)} 0 (omega arith))) (ranked_low i (suc k) ts),
  )

  pub ranked_high : (i j k : ℕ) (ts : List (Request Op)) → j ≤ place_at n k n
      → AllByRecursion (λ (e : Finished Op). j < place n e) (ranked S i k ts)
  ranked_high i j k [] h = tt
  ranked_high i j k (t ∷ ts) h = (omega (arith, suc-mul k (span n)), ranked_high i j (suc k) ts (omega (arith, suc-mul k (span n))))

  pub ranked_all : (P : Op → Type 0) (i k : ℕ) (ts : List (Request Op)) → AllByRecursion (λ (t : Request Op). P t.op) ts →
      AllByRecursion (λ (e : Finished Op). P e.request.op) (ranked S i k ts)
  ranked_all P i k [] h = tt
  ranked_all P i k (t ∷ ts) h = (h.0, ranked_all P i (suc k) ts h.1)

  -- sorted behind all that is there
  pub ranked_sort : (i k : ℕ) (es : List (Finished Op)) (ts : List (Request Op)) → AllByRecursion (Low (place n) (place_at n k n)) es →
      sort_onto (place n) es (ranked S i k ts) ≡ es ++ ranked S i k ts
  ranked_sort i k es [] h = sym (append-nil es)
  ranked_sort i k es (t ∷ ts) h =
      let e : Finished Op = record { slot = global_run (suc k); by = i; request = t } in
      ap (λ (l : List (Finished Op)). sort_onto (place n) l (ranked S i (suc k) ts))
      (Sorting.insert_last (place n) e es
      (All_part (Low (place n) (place_at n k n)) (Low (place n) (place_at n (suc k) 0)) es (λ x l. omega (arith, suc-mul k (span n))) h))
      ∙ ranked_sort i (suc k) (es ++ (e ∷ [])) ts
      (All_append (Low (place n) (place_at n (suc k) n)) es (e ∷ [])
      (All_part (Low (place n) (place_at n k n)) (Low (place n) (place_at n (suc k) n)) es (λ x l. omega (arith, suc-mul k (span n))) h)
      (omega arith, tt))
      ∙ append_assoc es (e ∷ []) (ranked S i (suc k) ts)

  -- what is true beyond the last global stays so: there is nothing if the queue was not empty
  pub ranked_beyond : (P : Finished Op → Type 0) (q i m : ℕ) (es : List (Finished Op)) (ts : List (Request Op)) →
      AllByRecursion (Low (place n) (place_at n m n)) es →
      AllByRecursion P (beyond (place n) (place_at n m (suc q)) es) →
      AllByRecursion P (beyond (place n) (place_at n (m + length ts) (suc q)) (es ++ ranked S i m ts))
  ranked_beyond P q i m es [] l h = rw (append-nil es, add-zero m) h
  ranked_beyond P q i m es (t ∷ ts) l h =
      let k : ℕ = m + suc (length ts) in
      subst (AllByRecursion P)
      (sym (Sorting.beyond_none (place n) (place_at n k (suc q)) (es ++ ranked S i m (t ∷ ts))
      (All_append (Low (place n) (place_at n k (suc q))) es (ranked S i m (t ∷ ts))
      (All_part (Low (place n) (place_at n m n)) (Low (place n) (place_at n k (suc q))) es
      (λ x v. omega (arith, suc-mul m (span n), place_mono S L {j = suc m} {k = m + suc (length ts)} 0 (omega arith))) l)
      (All_part (Low (place n) (place_at n k 0)) (Low (place n) (place_at n k (suc q))) (ranked S i m (t ∷ ts)) (λ x v. omega arith)
      (ranked_low i m (t ∷ ts))))))
      tt
