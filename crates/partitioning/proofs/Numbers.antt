-- The fillings by number: each filling has one, and smaller numbers have smaller fields.
-- Assumes nothing.
use mathlib.Core.Path.{◌≡◌, refl, ◌∙◌, sym, ap, ap₂, subst}
use mathlib.Core.Bool.{cond}
use mathlib.Core.List.{List, [], ◌∷◌}
use mathlib.Core.Logic.{inl, inr, ⊎_elim}
use Prim.Native.Nat.{ℕ, zero, suc, ◌+◌, ◌*◌, ◌/◌, ◌%◌, ◌≤◌, ◌<◌}
use native.Mathlib.Nat.{mod-lt, mod-eq_of_lt, div-eq_of_lt, div-add-mod', div-lt_iff_lt-mul, mul-add-div_right, mul-add-mod_self_right}
use native.Mathlib.Nat.{mul-le-mul_right, suc-mul, add-zero}
use native.Mathlib.Numerals.{add-one}
use native.Mathlib.Omega.{arith}
use lib.Dec.{ltb}
use lib.ListN.{length, get_or, drop}
use borrow.Author.Tests.{lt-ltb, le-ltb}
use Rattle.lists.proofs.Laws.{by_less, by_same}
use Rattle.word.specs.Field.{parameter_count}
use Rattle.partitioning.specs.Filling.{Candidate, Smaller}
use Rattle.partitioning.specs.Best.{candidate_count, candidate, filling_count, filling}
use Rattle.partitioning.proofs.Counts.{count_pos}

-- ---- candidates

candidate_param : (w i : ℕ) → i < parameter_count w → candidate w i ≡ i
candidate_param w i h = rw (lt-ltb i (parameter_count w) h)

candidate_none : (w i : ℕ) → parameter_count w ≤ i → candidate w i ≡ 15
candidate_none w i h = rw (le-ltb i (parameter_count w) h)

candidate_is : (w i : ℕ) → Candidate (parameter_count w) (candidate w i)
candidate_is w i =
    by_less i (parameter_count w) (λ h. inl (subst (λ (x : ℕ). x < parameter_count w) (sym (candidate_param w i h)) h))
    (λ h. inr (candidate_none w i h))

-- every candidate has four bits: a parameter's number is below a count of four bits
pub candidate_small : (w f : ℕ) → Candidate (parameter_count w) f → f < 16
candidate_small w f c = ⊎_elim (λ (h : f < parameter_count w). omega arith) (λ (h : f ≡ 15). omega arith) c

pub candidate_low : (w i : ℕ) → candidate w i < 16
candidate_low w i = candidate_small w (candidate w i) (candidate_is w i)

parameters_low : (w : ℕ) → parameter_count w ≤ 15
parameters_low w = omega arith

-- the number of a candidate
digit : ℕ → ℕ → ℕ
digit w f = cond (ltb f (parameter_count w)) f (parameter_count w)

digit_low : (w f : ℕ) → digit w f ≤ parameter_count w
unfolding digit
digit_low w f =
    by_less f (parameter_count w) (λ h. rw (lt-ltb f (parameter_count w) h) (omega arith))
    (λ h. rw (le-ltb f (parameter_count w) h) (omega arith))

candidate_digit : (w f : ℕ) → Candidate (parameter_count w) f → candidate w (digit w f) ≡ f
unfolding digit
candidate_digit w f (inl h) = rw (lt-ltb f (parameter_count w) h) (candidate_param w f h)
candidate_digit w f (inr e) =
    let h : parameter_count w ≤ f = omega (arith, parameters_low w) in
    rw (le-ltb f (parameter_count w) h) (candidate_none w (parameter_count w) (omega arith) ∙ sym e)

candidate_order : (w i j : ℕ) → i < j → j ≤ parameter_count w → candidate w i < candidate w j
candidate_order w i j h l =
    let a = candidate_param w i (omega arith) in
    by_less j (parameter_count w) (λ k. omega (arith, a, candidate_param w j k))
    (λ k. omega (arith, a, candidate_none w j k, parameters_low w))

-- ---- a filling of each number

filling_length : (os : List ℕ) (i : ℕ) → length (filling os i) ≡ length os
unfolding filling
filling_length [] i = refl
filling_length (w ∷ os) i = ap suc (filling_length os (i % filling_count os))

-- the fields, in order, are candidates of these open words
abbrev pub CandidatesOf : List ℕ → List ℕ → Type 0
CandidatesOf os fs = (j : ℕ) → j < length os → Candidate (parameter_count (get_or os j 0)) (get_or fs j 0)

filling_candidates : (os : List ℕ) (i : ℕ) → CandidatesOf os (filling os i)
unfolding filling
filling_candidates [] i j h = absurd (omega arith)
filling_candidates (w ∷ os) i zero h = candidate_is w (i / filling_count os)
filling_candidates (w ∷ os) i (suc j) h = filling_candidates os (i % filling_count os) j (omega arith)

-- a candidate for each word, and no more
abbrev pub Fits : List ℕ → List ℕ → Type 0
Fits os fs = (length fs ≡ length os) × CandidatesOf os fs

pub numbered_fits : (os : List ℕ) (i : ℕ) → Fits os (filling os i)
numbered_fits os i = (filling_length os i, filling_candidates os i)

-- ---- the number of each filling

pub number : List ℕ → List ℕ → ℕ
number [] fs = 0
number (w ∷ os) fs = digit w (get_or fs 0 0) * filling_count os + number os (drop 1 fs)

pub number_below : (os fs : List ℕ) → number os fs < filling_count os
unfolding number filling_count
number_below [] fs = omega arith
number_below (w ∷ os) fs =
    let r = number_below os (drop 1 fs) in
    let m : digit w (get_or fs 0 0) * filling_count os ≤ parameter_count w * filling_count os =
    mul-le-mul_right (filling_count os) (digit_low w (get_or fs 0 0)) in
    let s : candidate_count w * filling_count os ≡ parameter_count w * filling_count os + filling_count os =
    ap (λ (x : ℕ). x * filling_count os) (add-one (parameter_count w)) ∙ suc-mul (parameter_count w) (filling_count os) in
    omega arith

pub filling_number : (os fs : List ℕ) → Fits os fs → filling os (number os fs) ≡ fs
unfolding number filling
filling_number [] [] h = refl
filling_number [] (f ∷ fs) h = absurd (omega (arith, h.0))
filling_number (w ∷ os) [] h = absurd (omega (arith, h.0))
filling_number (w ∷ os) (f ∷ fs) h =
    let n = filling_count os in
    let r = number_below os fs in
    let q : (digit w f * n + number os fs) / n ≡ digit w f =
    mul-add-div_right (count_pos os) (digit w f) (number os fs) ∙ ap (λ (x : ℕ). digit w f + x) (div-eq_of_lt r) ∙ add-zero (digit w f) in
    let m : (digit w f * n + number os fs) % n ≡ number os fs =
    mul-add-mod_self_right (digit w f) n (number os fs) ∙ mod-eq_of_lt r in
    ap₂ ◌∷◌ (ap (candidate w) q ∙ candidate_digit w f (h.1 0 (omega arith)))
    (ap (filling os) m ∙ filling_number os fs (omega (arith, h.0), λ j l. h.1 (suc j) (omega arith)))

-- ---- plan order

cons_smaller : (f g : ℕ) (fs gs : List ℕ) → f ≡ g → Smaller fs gs → Smaller (f ∷ fs) (g ∷ gs)
cons_smaller f g fs gs e s = (suc s.0, same, s.2)
  where
    same : (j : ℕ) → j < suc s.0 → get_or (f ∷ fs) j 0 ≡ get_or (g ∷ gs) j 0
    same zero h = e
    same (suc j) h = s.1 j (omega arith)

pub filling_order : (os : List ℕ) (i j : ℕ) → i < j → j < filling_count os → Smaller (filling os i) (filling os j)
unfolding filling filling_count
filling_order [] i j h l = absurd (omega arith)
filling_order (w ∷ os) i j h l =
    by_less (i / n) (j / n) (λ k. (0, λ j h. absurd (omega arith), candidate_order w (i / n) (j / n) k low))
    (λ k. let e : i / n ≡ j / n = omega (arith, k, ordered) in
    cons_smaller (candidate w (i / n)) (candidate w (j / n)) (filling os (i % n)) (filling os (j % n)) (ap (candidate w) e)
    (filling_order os (i % n) (j % n) (omega (arith, h, di, dj, ap (λ (x : ℕ). x * n) e)) (mod-lt j (count_pos os))))
  where
    n : ℕ
    n = filling_count os

    di : i / n * n + i % n ≡ i
    di = div-add-mod' i n

    dj : j / n * n + j % n ≡ j
    dj = div-add-mod' j n

    low : j / n ≤ parameter_count w
    low = omega (arith, (div-lt_iff_lt-mul {x = j} {y = candidate_count w} (count_pos os)).1 l)

    ordered : i / n ≤ j / n
    ordered =
        by_less (j / n) (i / n)
        (λ k. absurd (omega (
          arith,
          di,
          dj,
          mod-lt j (count_pos os),
          mul-le-mul_right n k,
          suc-mul (j / n) n,
        )))
        (λ k. k)

pub smaller_irreflexive : (fs : List ℕ) → Smaller fs fs → ⊥
smaller_irreflexive fs s = omega (arith, s.2)

pub smaller_asymmetric : (fs gs : List ℕ) → Smaller fs gs → Smaller gs fs → ⊥
smaller_asymmetric fs gs s t =
    by_less s.0 t.0 (λ h. omega (arith, s.2, t.1 s.0 h))
    (λ h. by_same s.0 t.0
    (λ e. omega (arith, s.2, subst (λ (i : ℕ). get_or gs i 0 < get_or fs i 0) (sym e) t.2))
    (λ d. omega (arith, t.2, s.1 t.0 (omega arith))))
