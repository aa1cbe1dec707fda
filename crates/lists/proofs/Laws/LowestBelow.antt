-- `lowest_below` is the number that passes a test while no lower one does.
-- Assumes nothing.
use mathlib.Core.Path.{◌≡◌, ◌∙◌, sym, ap}
use mathlib.Core.Bool.{Bool, not, true, false, false≢true}
use mathlib.Core.Logic.{⊎_elim}
use Prim.Native.Nat.{ℕ, ◌+◌, ◌≤◌, ◌<◌}
use native.Mathlib.Nat.{not-suc-le-zero, eq-or-lt_of_le}
use native.Mathlib.Omega.{arith}
use Rattle.std.specs.List.{range_with_len}
use Rattle.std.proofs.lemmas.List.FromFn.{length-range_with_len}
use Rattle.std.proofs.lemmas.List.Sums.{passes_at_first, fails_before_first, prefix_len-le-length}
use Rattle.lists.proofs.Laws.AnyBelow.{number_at}
use Rattle.lists.proofs.Laws.Tests.{by_less}
use Rattle.lists.specs.Lists.LowestBelow.{lowest_below}
use Rattle.std.proofs.lemmas.Bool.{cases_lt}

-- no number below n passes
abbrev pub FailsBelow : (ℕ → Bool) → ℕ → Type 0
FailsBelow f n = (i : ℕ) → i < n → f i ≡ false

pub fails_below_none : (f : ℕ → Bool) → FailsBelow f 0
fails_below_none f i h = absurd (not-suc-le-zero h)

pub fails_below_next : (f : ℕ → Bool) (n : ℕ) → FailsBelow f n → f n ≡ false → FailsBelow f (n + 1)
fails_below_next f n h e i l =
    ⊎_elim (λ (s : i ≡ n). ap f s ∙ e) (λ (k : i < n). h i k) (eq-or-lt_of_le (omega arith))

pub lowest_below_le : (n : ℕ) (f : ℕ → Bool) → lowest_below n f ≤ n
unfolding lowest_below
lowest_below_le n f = omega (arith, length-range_with_len 0 n, prefix_len-le-length (λ x. not (f x)) (range_with_len 0 n))

pub lowest_below_passes : (n : ℕ) (f : ℕ → Bool) → lowest_below n f < n → f (lowest_below n f) ≡ true
unfolding lowest_below
lowest_below_passes n f h =
    ap f (sym (number_at n (lowest_below n f) h))
    ∙ passes_at_first f (range_with_len 0 n) 0 (omega (arith, length-range_with_len 0 n, h))

pub lowest_below_fails : (n : ℕ) (f : ℕ → Bool) → FailsBelow f (lowest_below n f)
unfolding lowest_below
lowest_below_fails n f i h =
    ap f (sym (number_at n i (omega (arith, lowest_below_le n f, h)))) ∙ fails_before_first f (range_with_len 0 n) i 0 h

module _ (n : ℕ) (f : ℕ → Bool) where
  -- it is at most any number that passes
  pub lowest_below_least : (k : ℕ) → f k ≡ true → lowest_below n f ≤ k
  lowest_below_least k e =
      ⊎_elim (λ (l : k < lowest_below n f). absurd (false≢true (sym (lowest_below_fails n f k l) ∙ e))) (λ (g : lowest_below n f ≤ k). g)
      (cases_lt k (lowest_below n f))

  pub lowest_below_is : (k : ℕ) → k < n → f k ≡ true → FailsBelow f k → lowest_below n f ≡ k
  lowest_below_is k h e none =
      let least = lowest_below_least k e in
      ⊎_elim (λ (s : lowest_below n f ≡ k). s)
      (λ (l : lowest_below n f < k). absurd (false≢true (sym (none (lowest_below n f) l) ∙ lowest_below_passes n f (omega arith))))
      (eq-or-lt_of_le least)

  pub lowest_below_past : FailsBelow f n → lowest_below n f ≡ n
  lowest_below_past none =
      ⊎_elim (λ (s : lowest_below n f ≡ n). s)
      (λ (l : lowest_below n f < n). absurd (false≢true (sym (none (lowest_below n f) l) ∙ lowest_below_passes n f l)))
      (eq-or-lt_of_le (lowest_below_le n f))

pub lowest_below_same : (n : ℕ) (f g : ℕ → Bool) → ((i : ℕ) → i < n → f i ≡ g i) → lowest_below n f ≡ lowest_below n g
lowest_below_same n f g h =
    let none = lowest_below_fails n g in
    by_less (lowest_below n g) n
    (λ l. lowest_below_is n f (lowest_below n g) l (h (lowest_below n g) l ∙ lowest_below_passes n g l)
    (λ i k. h i (omega (arith, k, l)) ∙ none i k))
    (λ u. lowest_below_past n f (λ i k. h i k ∙ none i (omega (arith, k, u))) ∙ omega (arith, u, lowest_below_le n g))
