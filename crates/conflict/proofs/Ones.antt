-- The count of ones in a mask is the count of desks in it.
-- Assumes nothing.
use mathlib.Core.Path.{◌≡◌, refl, ◌∙◌, sym, ap, ap₂}
use mathlib.Core.Bool.{Bool, true, false, false≢true}
use mathlib.Core.Logic.{◌⊎◌, inl, inr, ⊎_elim}
use Prim.Native.Nat.{ℕ, zero, suc, ◌+◌, ◌<◌}
use native.Mathlib.Nat.{not-suc-le-zero, le_of_suc-le-suc, eq-or-lt_of_le}
use native.Mathlib.Omega.{arith}
use lib.Count.{ones, ones_cat}
use Rattle.conflict.specs.Mask.{bit, mask_of}
use Rattle.conflict.proofs.Masks.{mask_lt}

-- how many d below n pass f
unfoldable pub count_of : ℕ → (ℕ → Bool) → ℕ
count_of zero f = 0
count_of (suc n) f = bit (f n) + count_of n f

ones_bit : (b : Bool) → ones (bit b) ≡ bit b
unfolding ones
ones_bit true = refl
ones_bit false = refl

pub ones_mask : (n : ℕ) (f : ℕ → Bool) → ones (mask_of n f) ≡ count_of n f
unfolding mask_of count_of ones
ones_mask zero f = refl
ones_mask (suc n) f =
    ones_cat n (bit (f n)) (mask_of n f) (mask_lt n f) ∙ ap₂ ◌+◌ (ones_bit (f n)) (ones_mask n f)

-- just one d below n passes f
abbrev pub OnlyOne : ℕ → (ℕ → Bool) → Type 0
OnlyOne n f = (d : ℕ) × (d < n) × (f d ≡ true) × ((e : ℕ) → e < n → f e ≡ true → e ≡ d)

pub none_of_count : (n : ℕ) (f : ℕ → Bool) → count_of n f ≡ 0 → (e : ℕ) → e < n → f e ≡ true → ⊥
unfolding count_of
none_of_count zero f z e h t = absurd (not-suc-le-zero h)
none_of_count (suc n) f z e h t = go (eq-or-lt_of_le (le_of_suc-le-suc h)) (λ l. none_of_count n f (omega arith) e l t)
  where
    go : (e ≡ n) ⊎ (e < n) → (e < n → ⊥) → ⊥
    go (inl q) r = let b : bit (f n) ≡ 1 = ap bit (ap f (sym q) ∙ t) in omega arith
    go (inr l) r = r l

pub count_of_none : (n : ℕ) (f : ℕ → Bool) → ((e : ℕ) → e < n → f e ≡ true → ⊥) → count_of n f ≡ 0
unfolding count_of
count_of_none zero f h = refl
count_of_none (suc n) f h = go (f n) refl (count_of_none n f (λ e l. h e (omega arith)))
  where
    go : (b : Bool) → f n ≡ b → count_of n f ≡ 0 → bit (f n) + count_of n f ≡ 0
    go true q r = absurd (h n (omega arith) q)
    go false q r = let b : bit (f n) ≡ 0 = ap bit q in omega arith

pub one_of_count : (n : ℕ) (f : ℕ → Bool) → count_of n f ≡ 1 → OnlyOne n f
unfolding count_of
one_of_count zero f z = absurd (omega arith)
one_of_count (suc n) f z = go (f n) refl (one_of_count n f)
  where
    go : (b : Bool) → f n ≡ b → (count_of n f ≡ 1 → OnlyOne n f) → OnlyOne (suc n) f
    go true q r =
        let b : bit (f n) ≡ 1 = ap bit q in (
          n,
          omega arith,
          q,
          λ e h t. ⊎_elim (λ (s : e ≡ n). s) (λ (l : e < n). absurd (none_of_count n f (omega arith) e l t))
              (eq-or-lt_of_le (le_of_suc-le-suc h)),
        )
    go false q r =
        let b : bit (f n) ≡ 0 = ap bit q in
        let k : OnlyOne n f = r (omega arith) in (
          k.0,
          omega (arith, k.1),
          k.2,
          λ e h t. ⊎_elim (λ (s : e ≡ n). absurd (false≢true (sym q ∙ ap f (sym s) ∙ t))) (λ (l : e < n). k.3 e l t)
              (eq-or-lt_of_le (le_of_suc-le-suc h)),
        )

pub count_of_one : (n : ℕ) (f : ℕ → Bool) → OnlyOne n f → count_of n f ≡ 1
unfolding count_of
count_of_one zero f k = absurd (not-suc-le-zero k.1)
count_of_one (suc n) f k = go (f n) refl (count_of_one n f)
  where
    go : (b : Bool) → f n ≡ b → (OnlyOne n f → count_of n f ≡ 1) → bit (f n) + count_of n f ≡ 1
    go true q r =
        let e : n ≡ k.0 = k.3 n (omega arith) q in
        let b : bit (f n) ≡ 1 = ap bit q in
        let z : count_of n f ≡ 0 = count_of_none n f (λ d l t. omega (arith, k.3 d (omega arith) t)) in
        omega arith
    go false q r =
        let b : bit (f n) ≡ 0 = ap bit q in
        let z : count_of n f ≡ 1 =
        ⊎_elim (λ (s : k.0 ≡ n). absurd (false≢true (sym q ∙ ap f (sym s) ∙ k.2)))
        (λ (l : k.0 < n). r (k.0, l, k.2, λ e h t. k.3 e (omega arith) t)) (eq-or-lt_of_le (le_of_suc-le-suc k.1))
        in
        omega arith
