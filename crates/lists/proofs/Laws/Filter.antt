-- The elements that pass a test, `filter`: of a list mapped, all and none; and with those that fail it.
-- Assumes nothing.
use mathlib.Core.Path.{◌≡◌, refl, sym, ap}
use mathlib.Core.Logic.{◌⊎◌, inl, inr}
use mathlib.Core.Bool.{Bool, true, false, not, ◌&&◌, ◌||◌, cond, false≢true}
use mathlib.Core.List.{List, [], ◌∷◌, map, Memᴰ}
use Prim.Native.Nat.{◌≤◌}
use native.Mathlib.Omega.{arith}
use lib.ListN.{length}
use Rattle.std.specs.List.{list_all, list_any, filter}
use Rattle.std.proofs.lemmas.Bool.{not-true}
use Rattle.std.proofs.lemmas.List.Elements.{All-weaker, filter_passes}
use Rattle.std.proofs.lemmas.List.Filters.{length-filter_both}
use Rattle.std.proofs.lemmas.List.Folds.{list_any_none}
use Rattle.std.proofs.lemmas.List.Sums.{list_all-from_AllPass}

module _ {A : Type 0} (f : A → Bool) where
  pub filter_yes : (x : A) (xs : List A) → f x ≡ true → filter f (x ∷ xs) ≡ x ∷ filter f xs
  filter_yes x xs e = ap (λ (b : Bool). cond b (x ∷ filter f xs) (filter f xs)) e

  pub filter_no : (x : A) (xs : List A) → f x ≡ false → filter f (x ∷ xs) ≡ filter f xs
  filter_no x xs e = ap (λ (b : Bool). cond b (x ∷ filter f xs) (filter f xs)) e

  pub filter_short : (xs : List A) → length (filter f xs) ≤ length xs
  filter_short xs = omega (arith, length-filter_both f (λ x. not (f x)) (λ _. refl) xs)

  -- all of those that are kept pass
  pub all_filter : (xs : List A) → list_all f (filter f xs) ≡ true
  all_filter xs = list_all-from_AllPass f (filter f xs) (filter_passes f xs)

  -- where none passes none is kept, and where all pass all are
  pub filter_none : (xs : List A) → list_any f xs ≡ false → filter f xs ≡ []
  filter_none [] e = refl
  filter_none (x ∷ xs) e = go (f x) e (filter_none xs)
    where
      go : (b : Bool) → (b || list_any f xs) ≡ false → (list_any f xs ≡ false → filter f xs ≡ [])
          → cond b (x ∷ filter f xs) (filter f xs) ≡ []
      go true p r = absurd (false≢true (sym p))
      go false p r = r p

  pub filter_all : (xs : List A) → list_all f xs ≡ true → filter f xs ≡ xs
  filter_all [] e = refl
  filter_all (x ∷ xs) e = go (f x) e (filter_all xs)
    where
      go : (b : Bool) → (b && list_all f xs) ≡ true → (list_all f xs ≡ true → filter f xs ≡ xs)
          → cond b (x ∷ filter f xs) (filter f xs) ≡ x ∷ xs
      go true p r = ap (◌∷◌ x) (r p)
      go false p r = absurd (false≢true p)

  pub filter_member : (t : A) (xs : List A) → Memᴰ t (filter f xs) → Memᴰ t xs
  filter_member t [] m = m
  filter_member t (x ∷ xs) m = go (f x) m (filter_member t xs)
    where
      go : (b : Bool) → Memᴰ t (cond b (x ∷ filter f xs) (filter f xs)) → (Memᴰ t (filter f xs) → Memᴰ t xs)
          → Memᴰ t (x ∷ xs)
      go true (Memᴰ.head p) r = Memᴰ.head p
      go true (Memᴰ.tail q) r = Memᴰ.tail (r q)
      go false q r = Memᴰ.tail (r q)

-- ---- of a list mapped

pub map_filter : {A B : Type 0} (g : A → B) (f : B → Bool) (xs : List A) → map g (filter (λ x. f (g x)) xs) ≡ filter f (map g xs)
map_filter g f [] = refl
map_filter {A} {B} g f (x ∷ xs) = go (f (g x)) (map_filter g f xs)
  where
    go : (b : Bool) → map g (filter (λ y. f (g y)) xs) ≡ filter f (map g xs)
        → map g (cond b (x ∷ filter (λ y. f (g y)) xs) (filter (λ y. f (g y)) xs))
        ≡ cond b (g x ∷ filter f (map g xs)) (filter f (map g xs))
    go true e = ap (◌∷◌ (g x)) e
    go false e = e

-- ---- with those that fail the test

module _ {A : Type 0} (f : A → Bool) where
  abbrev fails : A → Bool
  fails x = not (f x)

  -- none of those that fail passes
  pub any_fails : (xs : List A) → list_any f (filter fails xs) ≡ false
  any_fails xs =
      list_any_none f (filter fails xs)
      (All-weaker (λ x. fails x ≡ true) (λ x. f x ≡ false) (λ x. not-true (f x)) (filter fails xs) (filter_passes fails xs))

  -- where none passes all fail
  pub filter_fails : (xs : List A) → list_any f xs ≡ false → filter fails xs ≡ xs
  filter_fails [] e = refl
  filter_fails (x ∷ xs) e = go (f x) e (filter_fails xs)
    where
      go : (b : Bool) → (b || list_any f xs) ≡ false → (list_any f xs ≡ false → filter fails xs ≡ xs)
          → cond (not b) (x ∷ filter fails xs) (filter fails xs) ≡ x ∷ xs
      go true p r = absurd (false≢true (sym p))
      go false p r = ap (◌∷◌ x) (r p)

  -- those that pass do not fail
  pub fails_filter : (xs : List A) → filter fails (filter f xs) ≡ []
  fails_filter xs =
      let none = All-weaker (λ x. f x ≡ true) (λ x. fails x ≡ false) (λ x e. ap not e) (filter f xs) (filter_passes f xs) in
      filter_none fails (filter f xs) (list_any_none fails (filter f xs) none)

  -- each passes or fails
  pub member_either : (t : A) (xs : List A) → Memᴰ t xs → Memᴰ t (filter f xs) ⊎ Memᴰ t (filter fails xs)
  member_either t [] x' = elim x' [ ]
  member_either t (x ∷ xs) (Memᴰ.head p) = go (f x)
    where
      go : (b : Bool) → Memᴰ t (cond b (x ∷ filter f xs) (filter f xs))
          ⊎ Memᴰ t (cond (not b) (x ∷ filter fails xs) (filter fails xs))
      go true = inl (Memᴰ.head p)
      go false = inr (Memᴰ.head p)
  member_either t (x ∷ xs) (Memᴰ.tail m) = go (f x) (member_either t xs m)
    where
      go : (b : Bool) → Memᴰ t (filter f xs) ⊎ Memᴰ t (filter fails xs)
          → Memᴰ t (cond b (x ∷ filter f xs) (filter f xs)) ⊎ Memᴰ t (cond (not b) (x ∷ filter fails xs) (filter fails xs))
      go true (inl q) = inl (Memᴰ.tail q)
      go true (inr q) = inr q
      go false (inl q) = inl q
      go false (inr q) = inr (Memᴰ.tail q)
