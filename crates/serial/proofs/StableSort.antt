-- Putting in order by a key is a stable sort: the result is sorted, keeps the order of equal keys, and is a permutation.
-- Assumes nothing.
use Prim.Native.Nat.{ℕ, ◌≤◌, ◌<◌}
use mathlib.Core.Path.{◌≡◌, subst}
use mathlib.Core.Logic.{◌⊎◌, inl, inr}
use mathlib.Core.List.Perm
use mathlib.Core.List.{List, [], ◌∷◌, ◌++◌, append-nil, Perm, perm_middle}
use native.Mathlib.Omega.{arith}
use Rattle.std.proofs.lemmas.Bool.{lt-ltb, le-ltb}
use Rattle.lists.proofs.Laws.{by_less, by_same, All_part}
use Rattle.std.specs.List.{AllByRecursion}
use Rattle.lists.specs.Lists.{Pairs}
use Rattle.serial.specs.Order.{upto, beyond, insert, sort_onto}
use Rattle.serial.proofs.Sorting

module _ {A : Type 0} (key : A → ℕ) where
  -- ---- sorted, and equal keys in the order R of the list that came in

  module _ (R : A → A → Type 0) where
    -- by key; with equal keys by R
    abbrev pub ByKey : A → A → Type 0
    ByKey e f = (key e < key f) ⊎ ((key e ≡ key f) × R e f)

    key_low : (e f : A) → ByKey e f → key e ≤ key f
    key_low e f (inl l) = omega arith
    key_low e f (inr h) = omega (arith, h.0)

    insert_sorted : (e : A) (es : List A) → AllByRecursion (λ (x : A). R x e) es → Pairs ByKey es → Pairs ByKey (insert key e es)
    insert_sorted e [] r h = (tt, tt)
    insert_sorted e (x ∷ xs) r h =
        by_less (key e) (key x)
        (λ l. rw (lt-ltb _ _ l)
        ((inl l, All_part (ByKey x) (ByKey e) xs (λ y k. inl (omega (arith, key_low x y k))) h.0), h))
        (λ l. rw (le-ltb _ _ l) (
          Sorting.All_insert key (ByKey x) e xs (by_same (key x) (key e) (λ k. inr (k, r.0)) (λ k. inl (omega arith))) h.0,
          insert_sorted e xs r.1 h.1,
        ))

    pub sorted : (es fs : List A) → Pairs ByKey es → Pairs R fs → AllByRecursion (λ (x : A). AllByRecursion (R x) fs) es
        → Pairs ByKey (sort_onto key es fs)
    sorted es [] h r c = h
    sorted es (f ∷ fs) h r c =
        sorted (insert key f es) fs
        (insert_sorted f es (All_part (λ (x : A). AllByRecursion (R x) (f ∷ fs)) (λ (x : A). R x f) es (λ x k. k.0) c) h) r.1
        (Sorting.All_insert key (λ (x : A). AllByRecursion (R x) fs) f es r.0
        (All_part (λ (x : A). AllByRecursion (R x) (f ∷ fs)) (λ (x : A). AllByRecursion (R x) fs) es (λ x k. k.1) c))

  -- ---- a permutation

  insert_perm : (e : A) (es : List A) → Perm (insert key e es) (e ∷ es)
  insert_perm e es =
      subst (λ (l : List A). Perm (insert key e es) (e ∷ l)) (Sorting.upto_beyond key (key e) es)
      (perm_middle (upto key (key e) es) (beyond key (key e) es))

  pub sort_perm : (es fs : List A) → Perm (sort_onto key es fs) (es ++ fs)
  sort_perm es [] = rw (append-nil es) (Perm.refl es)
  sort_perm es (f ∷ fs) =
      Perm.trans (sort_perm (insert key f es) fs)
      (Perm.trans (Perm.append_right fs (insert_perm f es)) (Perm.symm (perm_middle es fs)))
