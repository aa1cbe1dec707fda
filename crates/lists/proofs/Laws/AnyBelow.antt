-- `any_below` passes exactly if the test does at a number below n.
-- Assumes nothing.
use mathlib.Core.Path.{◌≡◌, refl, ◌∙◌, sym, ap}
use mathlib.Core.Bool.{Bool, true, false, ◌||◌, or-false, or_comm}
use mathlib.Core.List.{List, [], ◌∷◌, ◌++◌}
use Prim.Native.Nat.{ℕ, suc, ◌+◌, ◌<◌}
use native.Mathlib.Omega.{arith}
use lib.ListN.{get_or}
use Rattle.std.specs.List.{range_with_len, list_any}
use Rattle.std.proofs.lemmas.List.Folds.{list_any_at, list_any_none, list_any-append}
use Rattle.std.proofs.lemmas.List.FromFn.{length-range_with_len, get_or-range_with_len, map-range_with_len_more}
use Rattle.std.proofs.lemmas.List.{map-id}
use Rattle.lists.specs.Lists.AnyBelow.{any_below}
use Rattle.lists.proofs.Laws.ListAny.{any_index}

-- the number at place i of those below n
pub number_at : (n i : ℕ) → i < n → get_or (range_with_len 0 n) i 0 ≡ i
number_at n i h = get_or-range_with_len 0 n i 0 h ∙ omega arith

pub any_below_number : (n : ℕ) (f : ℕ → Bool) → any_below n f ≡ true → (r : ℕ) × (r < n) × (f r ≡ true)
unfolding any_below
any_below_number n f e =
    let i = any_index f (range_with_len 0 n) 0 e in
    let below : i.0 < n = omega (arith, i.1, length-range_with_len 0 n) in
    (i.0, below, ap f (sym (number_at n i.0 below)) ∙ i.2)

pub number_any_below : (n : ℕ) (f : ℕ → Bool) (r : ℕ) → r < n → f r ≡ true → any_below n f ≡ true
unfolding any_below
number_any_below n f r h e =
    list_any_at f (range_with_len 0 n) r 0 (omega (arith, length-range_with_len 0 n)) (ap f (number_at n r h) ∙ e)

pub any_below_none : (n : ℕ) → any_below n (λ r. false) ≡ false
unfolding any_below
any_below_none n = list_any_none (λ r. false) (range_with_len 0 n) (λ k d h. refl)

-- one number more
range_more : (n : ℕ) → range_with_len 0 (n + 1) ≡ range_with_len 0 n ++ (n ∷ [])
range_more n =
    sym (map-id (range_with_len 0 (n + 1))) ∙ map-range_with_len_more (λ x. x) 0 n n (omega arith)
    ∙ ap (λ (l : List ℕ). l ++ (n ∷ [])) (map-id (range_with_len 0 n))

pub any_below_more : (n : ℕ) (f : ℕ → Bool) → any_below (suc n) f ≡ (f n || any_below n f)
unfolding any_below
any_below_more n f =
    let next : suc n ≡ n + 1 = omega arith in
    ap (λ (m : ℕ). list_any f (range_with_len 0 m)) next ∙ ap (list_any f) (range_more n) ∙ list_any-append f (range_with_len 0 n) (n ∷ [])
    ∙ or_comm (list_any f (range_with_len 0 n)) (f n || false)
    ∙ ap (λ (b : Bool). b || list_any f (range_with_len 0 n)) (or-false (f n))
