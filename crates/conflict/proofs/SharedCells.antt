-- Cells that two or more desks may touch: the count of ones in the mask says it, and with one desk there is none.
-- Assumes nothing.
use mathlib.Core.Path.{◌≡◌, refl, ◌∙◌, sym, ap, subst}
use mathlib.Core.Bool.{Bool, true, false}
use mathlib.Core.List.{List}
use mathlib.Core.Logic.{◌↔◌}
use Prim.Native.Nat.{ℕ, zero, suc, ◌≤◌, ◌<◌}
use native.Mathlib.Omega.{arith}
use borrow.Author.Tests.{leb-true, le-leb}
use Rattle.verdict.specs.Verdict.{accepted}
use Rattle.lists.proofs.Laws.{by_less}
use Rattle.plan.specs.Decode.{plan_of}
use Rattle.plan.specs.Admission.{plan_verdict}
use Rattle.conflict.specs.Mask.{bit}
use Rattle.conflict.specs.Touch.{desk_mask}
use Rattle.conflict.specs.Meaning.{Toucher}
use Rattle.conflict.specs.Shared.{Shared, is_shared, SharedMeans, OneDeskNoneShared}
use Rattle.conflict.proofs.Ones.{count_of, ones_mask, OnlyOne, none_of_count, one_of_count}
use Rattle.conflict.proofs.Touching.{touched, some_desk}
use Rattle.conflict.proofs.MaskMeaning.{desk_low, found_toucher, toucher_found}

-- ---- counting

-- some d below n passes f
abbrev Some : ℕ → (ℕ → Bool) → Type 0
Some n f = (d : ℕ) × (d < n) × (f d ≡ true)

some_of_count : (n : ℕ) (f : ℕ → Bool) → 1 ≤ count_of n f → Some n f
unfolding count_of
some_of_count zero f h = absurd (omega arith)
some_of_count (suc n) f h = go (f n) refl (some_of_count n f)
  where
    go : (b : Bool) → f n ≡ b → (1 ≤ count_of n f → Some n f) → Some (suc n) f
    go true q r = (n, omega arith, q)
    go false q r = let b : bit (f n) ≡ 0 = ap bit q in let k : Some n f = r (omega arith) in (k.0, omega (arith, k.1), k.2)

-- two of them do
abbrev Two : ℕ → (ℕ → Bool) → Type 0
Two n f = (d : ℕ) × (e : ℕ) × (d < n) × (e < n) × (d ≡ e → ⊥) × (f d ≡ true) × (f e ≡ true)

two_of_count : (n : ℕ) (f : ℕ → Bool) → 2 ≤ count_of n f → Two n f
unfolding count_of
two_of_count zero f h = absurd (omega arith)
two_of_count (suc n) f h = go (f n) refl (two_of_count n f)
  where
    go : (b : Bool) → f n ≡ b → (2 ≤ count_of n f → Two n f) → Two (suc n) f
    go true q r =
        let b : bit (f n) ≡ 1 = ap bit q in
        let k : Some n f = some_of_count n f (omega arith) in
        (n, k.0, omega arith, omega (arith, k.1), λ e. omega (arith, k.1), q, k.2)
    go false q r =
        let b : bit (f n) ≡ 0 = ap bit q in
        let k : Two n f = r (omega arith) in
        (k.0, k.1, omega (arith, k.2), omega (arith, k.3), k.4, k.5, k.6)

count_of_two : (n : ℕ) (f : ℕ → Bool) → Two n f → 2 ≤ count_of n f
count_of_two n f t =
    by_less (count_of n f) 1
    (λ h. absurd (none_of_count n f (omega arith) t.0 t.2 t.5))
    (λ h. by_less (count_of n f) 2
    (λ l. let k : OnlyOne n f = one_of_count n f (omega arith) in
    absurd (t.4 (k.3 t.0 t.2 t.5 ∙ sym (k.3 t.1 t.3 t.6))))
    (λ l. l))

-- ---- the mask

module _ (ws : List ℕ) (e : plan_verdict ws ≡ accepted) (c : ℕ) where
  below : (d : ℕ) → Toucher (plan_of ws) d c → d < (plan_of ws).desks
  below d t = subst (λ (x : ℕ). x < (plan_of ws).desks) t.2 (desk_low (plan_of ws) t.0 (some_desk ws e))

  shared : (is_shared (desk_mask (plan_of ws) c) ≡ true) ↔ Shared (plan_of ws) c
  unfolding desk_mask
  shared =
      let n = (plan_of ws).desks in
      let f = touched (plan_of ws) c in (
        λ h. let t : Two n f = two_of_count n f (subst (λ (x : ℕ). 2 ≤ x) (ones_mask n f) (leb-true 2 _ h)) in
            (t.0, t.1, t.4, found_toucher ws e c t.0 t.5, found_toucher ws e c t.1 t.6),
        λ s. le-leb 2 _
            (subst (λ (x : ℕ). 2 ≤ x) (sym (ones_mask n f))
            (count_of_two n f (
              s.0,
              s.1,
              below s.0 s.3,
              below s.1 s.4,
              s.2,
              toucher_found ws e c s.0 s.3,
              toucher_found ws e c s.1 s.4,
            ))),
      )

pub shared_means : SharedMeans
shared_means = shared

pub one_desk_none_shared : OneDeskNoneShared
one_desk_none_shared ws e one c s = s.2 (omega (arith, one, below ws e c s.0 s.3, below ws e c s.1 s.4))
