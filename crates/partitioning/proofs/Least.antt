-- The first number at which a function is least.
-- Assumes nothing.
use mathlib.Core.Path.{◌≡◌, refl}
use mathlib.Core.Bool.{Bool, true, false, cond}
use mathlib.Core.Logic.{◌⊎◌, inl, inr}
use Prim.Native.Nat.{ℕ, zero, suc, ◌+◌, ◌≤◌, ◌<◌}
use native.Mathlib.Numerals.{add-one}
use native.Mathlib.Nat.{not-suc-le-zero, le_of_suc-le-suc, eq-or-lt_of_le}
use native.Mathlib.Omega.{arith}
use lib.Dec.{ltb}
use borrow.Author.Tests.{ltb-true, ltb-false}
use Rattle.partitioning.specs.Best.{least_at}

-- one number more, as a loop counts
pub least_next : (f : ℕ → ℕ) (n : ℕ) → least_at f (n + 1) ≡ cond (ltb (f n) (f (least_at f n))) n (least_at f n)
unfolding least_at
least_next f n = rw (add-one n)

module _ (f : ℕ → ℕ) where
  -- number n is less than all before it, or the first least below n stays
  abbrev Moves : ℕ → Type 0
  Moves n = (least_at f (suc n) ≡ n) × (f n < f (least_at f n))

  abbrev Stays : ℕ → Type 0
  Stays n = (least_at f (suc n) ≡ least_at f n) × (f (least_at f n) ≤ f n)

  moves_or_stays : (n : ℕ) → Moves n ⊎ Stays n
  unfolding least_at
  moves_or_stays n = go (ltb (f n) (f (least_at f n))) refl
    where
      go : (b : Bool) → ltb (f n) (f (least_at f n)) ≡ b
          → ((cond b n (least_at f n) ≡ n) × (f n < f (least_at f n))) ⊎ ((cond b n (least_at f n) ≡ least_at f n) × (f
          (least_at f n) ≤ f n))
      go true e = inl (refl, ltb-true _ _ e)
      go false e = inr (refl, ltb-false _ _ e)

  least_none : least_at f 0 ≡ 0
  unfolding least_at
  least_none = refl

  pub least_le : (n i : ℕ) → i < n → f (least_at f n) ≤ f i
  least_le zero i h = absurd (not-suc-le-zero h)
  least_le (suc n) i h = go (moves_or_stays n) (eq-or-lt_of_le (le_of_suc-le-suc h)) (least_le n i)
    where
      go : Moves n ⊎ Stays n → (i ≡ n) ⊎ (i < n) → (i < n → f (least_at f n) ≤ f i) → f (least_at f (suc n)) ≤ f i
      go (inl e) (inl s) r = rw (e.0, s) (omega arith)
      go (inl e) (inr l) r = rw e.0 (omega (arith, e.1, r l))
      go (inr e) (inl s) r = rw (e.0, s) e.1
      go (inr e) (inr l) r = rw e.0 (r l)

  pub least_first : (n i : ℕ) → i < least_at f n → f (least_at f n) < f i
  least_first zero i h = absurd (omega (arith, h, least_none))
  least_first (suc n) i h = go (moves_or_stays n) (least_first n i)
    where
      go : Moves n ⊎ Stays n → (i < least_at f n → f (least_at f n) < f i) → f (least_at f (suc n)) < f i
      go (inl e) r = rw e.0 (omega (arith, e.1, least_le n i (omega (arith, h, e.0))))
      go (inr e) r = rw e.0 (r (omega (arith, h, e.0)))
