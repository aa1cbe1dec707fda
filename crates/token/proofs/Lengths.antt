-- How long a frame is: at most 32 updates of each of n desks, each of at most 25 words.
-- Assumes nothing.
use mathlib.Core.Path.{◌≡◌, refl}
use mathlib.Core.Bool.{Bool, true, false, cond}
use mathlib.Core.List.{List, [], ◌∷◌}
use Prim.Native.Nat.{ℕ, zero, suc, ◌+◌, ◌*◌, ◌≤◌, ◌<◌}
use native.Mathlib.Nat.{not-suc-le-zero}
use native.Mathlib.Omega.{arith}
use lib.Dec.{ltb, leb, eqb}
use lib.ListN.{length, length-append}
use borrow.Author.Tests.{ltb-true, leb-true, eqb-false}
use Rattle.std.specs.List.{list_all}
use Rattle.lists.proofs.Laws.{and_fst, and_snd}
use Rattle.frame.specs.Frame.{SentUpdate, update_words, updates_words}
use Rattle.frame.specs.Admission.{desk_count}
use Rattle.token.specs.WellFormed.{update_fits, WellFormed}
use Rattle.token.proofs.Written.{update_length}

-- the updates of the desks below n
unfoldable count_below : ℕ → List SentUpdate → ℕ
count_below zero us = 0
count_below (suc n) us = desk_count n us + count_below n us

count_mono : (n : ℕ) (u : SentUpdate) (us : List SentUpdate) → count_below n us ≤ count_below n (u ∷ us)
unfolding count_below desk_count
count_mono zero u us = omega arith
count_mono (suc n) u us = omega (arith, count_mono n u us)

count_one : (n : ℕ) (u : SentUpdate) (us : List SentUpdate) → u.desk < n → 1 + count_below n us ≤ count_below n (u ∷ us)
unfolding count_below desk_count
count_one zero u us h = absurd (not-suc-le-zero h)
count_one (suc n) u us h = go (eqb u.desk n) refl (count_one n u us)
  where
    go : (b : Bool) → eqb u.desk n ≡ b → (u.desk < n → 1 + count_below n us ≤ count_below n (u ∷ us))
        → 1 + (desk_count n us + count_below n us) ≤ cond b 1 0 + desk_count n us + count_below n (u ∷ us)
    go true q r = omega (arith, count_mono n u us)
    go false q r = omega (arith, r (omega (arith, eqb-false u.desk n q)))

counted_all : (n : ℕ) (us : List SentUpdate) → list_all (update_fits n) us ≡ true → length us ≤ count_below n us
counted_all n [] e = omega arith
counted_all n (u ∷ us) e =
    let d = ltb-true u.desk n (and_fst (ltb u.desk n) _ (and_fst (update_fits n u) _ e)) in
    omega (arith, counted_all n us (and_snd (update_fits n u) _ e), count_one n u us d)

count_bound : (n : ℕ) (us : List SentUpdate) → ((d : ℕ) → desk_count d us ≤ 32) → count_below n us ≤ 32 * n
unfolding count_below
count_bound zero us h = omega arith
count_bound (suc n) us h = omega (arith, count_bound n us h, h n)

words_bound : (n : ℕ) (us : List SentUpdate) → list_all (update_fits n) us ≡ true → length (updates_words us) ≤ 25 * length us
unfolding updates_words
words_bound n [] e = omega arith
words_bound n (u ∷ us) e =
    let g = and_snd (ltb u.desk n) _ (and_fst (update_fits n u) _ e) in
    let k = leb-true (length u.writes) 12 (and_fst (leb (length u.writes) 12) _ g) in
    omega (arith, length-append (update_words u) (updates_words us), update_length u, words_bound n us (and_snd (update_fits n u) _ e))

-- 2 + 8 · 32 · 25 + 2 words are 6,404
pub updates_length : (n : ℕ) (us : List SentUpdate) → n ≤ 8 → WellFormed n us → length (updates_words us) ≤ 6400
updates_length n us h w =
    omega (arith, words_bound n us w.each, counted_all n us w.each, count_bound n us w.per_desk)
