-- A test of every element of a list, `list_all`: at an index, of a member, of two lists in one, and of the first elements.
-- Assumes nothing.
use mathlib.Core.Path.{◌≡◌, refl, ◌∙◌, ap, ap₂}
use mathlib.Core.Bool.{Bool, true, ◌&&◌}
use mathlib.Core.List.{List, [], ◌∷◌, ◌++◌, Memᴰ}
use Prim.Native.Nat.{ℕ, ◌+◌, ◌≤◌, ◌<◌}
use native.Mathlib.Omega.{arith}
use lib.ListN.{length, get_or, take, drop}
use lib.Seq.{get_or-take, length-take-le}
use Rattle.std.specs.List.{list_all}
use Rattle.std.proofs.lemmas.Bool.{and_from}
use Rattle.std.proofs.lemmas.List.{at_drop_more, at_drop_all}
use Rattle.std.proofs.lemmas.List.Folds.{list_all-append}
use Rattle.std.proofs.lemmas.List.Sums.{AllPass-from_list_all}
use Rattle.lists.proofs.Laws.Bool.{and_fst, and_snd}

module _ {A : Type 0} (f : A → Bool) where
  pub all_index : (l : List A) (i : ℕ) (d : A) → list_all f l ≡ true → i < length l → f (get_or l i d) ≡ true
  all_index l i d e h = AllPass-from_list_all f l e i d h

  pub all_member : (l : List A) (x : A) → list_all f l ≡ true → Memᴰ x l → f x ≡ true
  all_member [] x e x4 = elim x4 [ ]
  all_member (y ∷ ys) x e (Memᴰ.head p) = ap f p ∙ and_fst (f y) (list_all f ys) e
  all_member (y ∷ ys) x e (Memᴰ.tail m) = all_member ys x (and_snd (f y) (list_all f ys) e) m

  pub member_all : (l : List A) → ((x : A) → Memᴰ x l → f x ≡ true) → list_all f l ≡ true
  member_all [] h = refl
  member_all (y ∷ ys) h =
      and_from (f y) (list_all f ys) (h y (Memᴰ.head refl)) (member_all ys (λ x m. h x (Memᴰ.tail m)))

  pub all_append : (xs ys : List A) → list_all f xs ≡ true → list_all f ys ≡ true → list_all f (xs ++ ys) ≡ true
  all_append xs ys h k = list_all-append f xs ys ∙ and_from (list_all f xs) (list_all f ys) h k

-- two tests that agree on the members
pub all_same : {A : Type 0} (f g : A → Bool) (l : List A) → ((x : A) → Memᴰ x l → f x ≡ g x) → list_all f l ≡ list_all g l
all_same f g [] h = refl
all_same f g (y ∷ ys) h = ap₂ ◌&&◌ (h y (Memᴰ.head refl)) (all_same f g ys (λ x m. h x (Memᴰ.tail m)))

-- ---- of the first n elements, from the i-th on

module _ {A : Type 0} (f : A → Bool) (l : List A) (n : ℕ) (fits : n ≤ length l) where
  pub all_take_here : (i : ℕ) (d : A) → i < n → list_all f (drop i (take n l)) ≡ (f (get_or l i d) && list_all f (drop (i + 1) (take n l)))
  all_take_here i d h =
      at_drop_more (list_all f) (take n l) i d (omega (arith, length-take-le n l fits))
      ∙ ap (λ (x : A). f x && list_all f (drop (i + 1) (take n l))) (get_or-take n l i d h)

  pub all_take_past : list_all f (drop n (take n l)) ≡ true
  all_take_past = at_drop_all (list_all f) (take n l) n (omega (arith, length-take-le n l fits))
