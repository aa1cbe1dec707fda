-- A frame that reads, with one word changed, is refused with 10 or 11.
-- Assumes nothing.
use Rattle.std.proofs.Common.{◌≡◌, ℕ, zero, suc, ◌+◌, ◌-◌, ◌%◌, ◌^◌, ◌<◌, ◌≤◌, Bool, true, false, eqb, ◌⊎◌, List, [], ◌∷◌, length, get_or}
use Rattle.std.proofs.Common.{take, set, sym, refl, ap, ◌∙◌, subst, inl, inr, ⊎_elim}
use Rattle.std.proofs.Common.{le_of_suc-le-suc, not-suc-le-zero, add_assoc, eq-or-lt_of_le, arith}
use Rattle.std.proofs.Common.{length-set, length-take-le, get_or-set_other, get_or-take, get_or-set_same, eqb-true}
use native.Mathlib.Nat.{mod-add-mod}
use lib.Seq.{take-set-le, take-set-lt}
use Rattle.verdict.specs.Verdict.{refused}
use Rattle.lists.proofs.Laws.{and_fst, and_snd}
use Rattle.plan.specs.Decode.{plan_of}
use Rattle.word.specs.Words.{AllWords}
use Rattle.frame.specs.Frame.{sums_from, sums_of}
use Rattle.frame.specs.Admission.{frame_headed, sums_right, frame_verdict}
use Rattle.frame.specs.OneWord.{OneWord, OneWordRead}
use Rattle.frame.proofs.Verdicts.{headed, admitted, read_accepted, read_after}

-- ---- the first sum is the words' total modulo 2^32

unfoldable total : List ℕ → ℕ
total [] = 0
total (w ∷ ws) = w + total ws

first_total : (a b : ℕ) (ws : List ℕ) → a < 2 ^ 32 → (sums_from a b ws).0 ≡ (a + total ws) % 2 ^ 32
unfolding sums_from total
first_total a b [] h = omega arith
first_total a b (w ∷ ws) h =
    first_total ((a + w) % 2 ^ 32) ((b + (a + w) % 2 ^ 32) % 2 ^ 32) ws (omega arith)
    ∙ mod-add-mod (a + w) (2 ^ 32) (total ws) ∙ ap (λ (k : ℕ). k % 2 ^ 32) (add_assoc a w (total ws))

total_set : (l : List ℕ) (i x : ℕ) → i < length l → total (set l i x) + get_or l i 0 ≡ total l + x
unfolding total
total_set [] i x h = absurd (not-suc-le-zero h)
total_set (w ∷ l) zero x h = omega arith
total_set (w ∷ l) (suc i) x h = omega (arith, total_set l i x (le_of_suc-le-suc h))

-- two words that give the same total modulo 2^32 are one
cancel : (s t g x : ℕ) → s + g ≡ t + x → s % 2 ^ 32 ≡ t % 2 ^ 32 → g < 2 ^ 32 → x < 2 ^ 32 → x ≡ g
cancel s t g x e m hg hx = omega arith

same_first : (l : List ℕ) (i x : ℕ) → i < length l → get_or l i 0 < 2 ^ 32 → x < 2 ^ 32
    → (sums_of (set l i x)).0 ≡ (sums_of l).0 → x ≡ get_or l i 0
same_first l i x h hg hx e =
    let a = first_total 0 0 (set l i x) (omega arith) in
    let b = first_total 0 0 l (omega arith) in
    let m : (0 + total (set l i x)) % 2 ^ 32 ≡ (0 + total l) % 2 ^ 32 = sym a ∙ e ∙ b in
    cancel (0 + total (set l i x)) (0 + total l) (get_or l i 0) x (omega (arith, total_set l i x h)) m hg hx

-- ---- question 11 of the changed words

-- what stands for the sums is right
right : (ws : List ℕ) → sums_right ws ≡ true
    → (get_or ws (length ws - 2) 0 ≡ (sums_of (take (length ws - 2) ws)).0) × (get_or ws (length ws - 1) 0 ≡ (sums_of (take
    (length ws - 2) ws)).1)
unfolding sums_right
right ws e =
    (eqb-true _ _ (and_fst _ _ e), eqb-true _ _ (and_snd (eqb (get_or ws (length ws - 2) 0) (sums_of (take (length ws - 2) ws)).0) _ e))

module _ (ws : List ℕ) (i x : ℕ) (words : AllWords ws) (low : 4 ≤ length ws) (h : i < length ws) (hx : x < 2 ^ 32)
    (r : sums_right ws ≡ true) where
  -- the sums of the changed words, at the places of the sums
  changed : sums_right (set ws i x) ≡ true
      → (get_or (set ws i x) (length ws - 2) 0 ≡ (sums_of (take (length ws - 2) (set ws i x))).0)
      × (get_or (set ws i x) (length ws - 1) 0 ≡ (sums_of (take (length ws - 2) (set ws i x))).1)
  changed e =
      subst (λ (k : ℕ). (get_or (set ws i x) (k - 2) 0 ≡ (sums_of (take (k - 2) (set ws i x))).0)
      × (get_or (set ws i x) (k - 1) 0 ≡ (sums_of (take (k - 2) (set ws i x))).1)) (length-set ws i x) (right (set ws i x) e)

  before_sums : i < length ws - 2 → sums_right (set ws i x) ≡ true → x ≡ get_or ws i 0
  before_sums b e =
      let l = take (length ws - 2) ws in
      let at : get_or l i 0 ≡ get_or ws i 0 = get_or-take (length ws - 2) ws i 0 b in
      let kept : get_or (set ws i x) (length ws - 2) 0 ≡ get_or ws (length ws - 2) 0 =
      get_or-set_other ws i (length ws - 2) x 0 (λ q. omega arith) in
      let sums : (sums_of (set l i x)).0 ≡ (sums_of l).0 =
      ap (λ (t : List ℕ). (sums_of t).0) (sym (take-set-lt (length ws - 2) ws i x b)) ∙ sym (changed e).0 ∙ kept ∙ (right ws r).0 in
      same_first l i x (omega (arith, length-take-le (length ws - 2) ws (omega arith))) (omega (arith, at, words i)) hx sums ∙ at

  at_sum : (k : ℕ) (f : ℕ × ℕ → ℕ) → i ≡ k → length ws - 2 ≤ i
      → get_or (set ws i x) k 0 ≡ f (sums_of (take (length ws - 2) (set ws i x))) → get_or ws k 0 ≡ f (sums_of (take (length ws - 2) ws))
      → x ≡ get_or ws i 0
  at_sum k f q b e g =
      sym (get_or-set_same ws i x 0 h) ∙ ap (λ (j : ℕ). get_or (set ws i x) j 0) q ∙ e
      ∙ ap (λ (t : List ℕ). f (sums_of t)) (take-set-le (length ws - 2) ws i x b) ∙ sym g ∙ ap (λ (j : ℕ). get_or ws j 0) (sym q)

  same_word : sums_right (set ws i x) ≡ true → x ≡ get_or ws i 0
  same_word e =
      ⊎_elim (λ q. at_sum (length ws - 1) (λ p. p.1) q (omega arith) (changed e).1 (right ws r).1)
      (λ b. ⊎_elim (λ q. at_sum (length ws - 2) (λ p. p.0) q (omega arith) (changed e).0 (right ws r).0)
      (λ c. before_sums c e) (third b))
      second
    where
      second : (i ≡ length ws - 1) ⊎ (i < length ws - 1)
      second = eq-or-lt_of_le (omega arith)

      third : i < length ws - 1 → (i ≡ length ws - 2) ⊎ (i < length ws - 2)
      third b = eq-or-lt_of_le (omega arith)

-- ---- the verdict on the changed words

no_longer_right : (ws : List ℕ) (i x : ℕ) → AllWords ws → 4 ≤ length ws → i < length ws → x < 2 ^ 32 → sums_right ws ≡ true
    → (x ≡ get_or ws i 0 → ⊥) → sums_right (set ws i x) ≡ false
no_longer_right ws i x words low h hx r d = go (sums_right (set ws i x)) refl
  where
    go : (b : Bool) → sums_right (set ws i x) ≡ b → sums_right (set ws i x) ≡ false
    go true e = absurd (d (same_word ws i x words low h hx r e))
    go false e = e

-- whoever asks question 11 after question 10
wrong_sums : (n : ℕ) (ws : List ℕ) → sums_right ws ≡ false → (frame_verdict n ws ≡ refused 10) ⊎ (frame_verdict n ws ≡ refused 11)
unfolding frame_verdict
wrong_sums n ws e = go (frame_headed ws) refl
  where
    go : (b : Bool) → frame_headed ws ≡ b → (frame_verdict n ws ≡ refused 10) ⊎ (frame_verdict n ws ≡ refused 11)
    go true q = inr (simp (q, e))
    go false q = inl (simp q)

pub one_word : OneWord
one_word n ws words e i x h hx d =
    let q = admitted n ws e in
    wrong_sums n (set ws i x) (no_longer_right ws i x words (headed ws q.head).low h hx q.sums d)

pub one_word_read : OneWordRead
one_word_read plan ws words e i x h hx d =
    let r = read_accepted plan ws e in
    ⊎_elim (λ q. inl (sym (read_after plan (set ws i x) (refused 10) r.0 (sym q))))
    (λ q. inr (sym (read_after plan (set ws i x) (refused 11) r.0 (sym q)))) (one_word (plan_of plan).desks ws words r.1 i x h hx d)
