-- Of the fillings by number, the first of least cost: none costs less, none of the same cost is smaller, and no other filling is so.
-- Assumes nothing.
use mathlib.Core.Path.{◌≡◌, ◌∙◌, sym, ap, subst}
use mathlib.Core.List.{List}
use Prim.Native.Nat.{ℕ, ◌≤◌, ◌<◌}
use native.Mathlib.Omega.{arith}
use Rattle.lists.proofs.Laws.{by_less, by_same}
use Rattle.partitioning.specs.Filling.{Smaller}
use Rattle.partitioning.specs.Best.{filling_count, filling, least_at}
use Rattle.partitioning.proofs.Least.{least_le, least_first}
use Rattle.partitioning.proofs.Numbers.{Fits, numbered_fits, number, number_below, filling_number}
use Rattle.partitioning.proofs.Numbers.{filling_order, smaller_irreflexive, smaller_asymmetric}

-- a smaller filling has a smaller number
smaller_number : (os : List ℕ) (i j : ℕ) → i < filling_count os → Smaller (filling os i) (filling os j) → i < j
smaller_number os i j h s =
    by_less i j (λ l. l)
    (λ l. by_same i j (λ e. absurd (smaller_irreflexive (filling os j) (subst (λ (k : ℕ). Smaller (filling os k) (filling os j)) e s)))
    (λ d. absurd (smaller_asymmetric (filling os i) (filling os j) s (filling_order os j i (omega (arith, d)) h))))

module _ (os : List ℕ) (cost : List ℕ → ℕ) where
  abbrev cost_at : ℕ → ℕ
  cost_at i = cost (filling os i)

  abbrev first : ℕ
  first = least_at cost_at (filling_count os)

  module _ (gs : List ℕ) (fits : Fits os gs) where
    number_cost : cost_at (number os gs) ≡ cost gs
    number_cost = ap cost (filling_number os gs fits)

    pub first_least : cost (filling os first) ≤ cost gs
    first_least =
        subst (λ (x : ℕ). cost (filling os first) ≤ x) number_cost
        (least_le cost_at (filling_count os) (number os gs) (number_below os gs))

    pub first_smallest : cost (filling os first) ≡ cost gs → Smaller gs (filling os first) → ⊥
    first_smallest e s =
        let l : number os gs < first = smaller_number os (number os gs) first (number_below os gs)
        (subst (λ (fs : List ℕ). Smaller fs (filling os first)) (sym (filling_number os gs fits)) s) in
        omega (arith, e, number_cost, least_first cost_at (filling_count os) (number os gs) l)

    pub first_only : ((fs : List ℕ) → Fits os fs → (cost gs ≤ cost fs) × (cost gs ≡ cost fs → Smaller fs gs → ⊥))
        → gs ≡ filling os first
    first_only best =
        let i = number os gs in
        let same : cost gs ≡ cost (filling os first) = omega (arith, first_least, (best (filling os first) (numbered_fits os first)).0) in
        sym (filling_number os gs fits)
        ∙ ap (filling os) (by_less i first
        (λ h. absurd (omega (arith, same, number_cost, least_first cost_at (filling_count os) i h)))
        (λ h. by_same i first (λ e. e) (λ d. absurd ((best (filling os first) (numbered_fits os first)).1 same
        (subst (λ (fs : List ℕ). Smaller (filling os first) fs) (filling_number os gs fits)
        (filling_order os first i (omega (arith, d)) (number_below os gs)))))))
