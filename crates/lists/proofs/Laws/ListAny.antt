-- A test that some element of a list passes, `list_any`: at an index, of a member, and of pairs.
-- Assumes nothing.
use mathlib.Core.Path.{◌≡◌, refl, ◌∙◌, sym, ap, fun_ext}
use mathlib.Core.Bool.{Bool, true, false, ◌||◌, or-true, false≢true}
use mathlib.Core.List.{List, [], ◌∷◌, Memᴰ}
use Prim.Native.Nat.{ℕ, ◌<◌}
use lib.ListN.{length, get_or}
use Rattle.std.specs.List.{list_any}
use Rattle.std.proofs.lemmas.List.{get_or_default}
use Rattle.std.proofs.lemmas.List.Folds.{Any-from_list_any}
use Rattle.lists.proofs.Laws.Bool.{bool_ext}

module _ {A : Type 0} (f : A → Bool) where
  pub member_any : (x : A) (xs : List A) → Memᴰ x xs → f x ≡ true → list_any f xs ≡ true
  member_any x [] x3 e = elim x3 [ ]
  member_any x (y ∷ ys) (Memᴰ.head p) e = ap (λ (b : Bool). b || list_any f ys) (ap f (sym p) ∙ e)
  member_any x (y ∷ ys) (Memᴰ.tail m) e = ap (λ (b : Bool). f y || b) (member_any x ys m e) ∙ or-true (f y)

  pub any_member : (xs : List A) → list_any f xs ≡ true → (x : A) × Memᴰ x xs × (f x ≡ true)
  any_member [] e = absurd (false≢true e)
  any_member (x ∷ xs) e = go (f x) refl e (any_member xs)
    where
      go : (b : Bool) → f x ≡ b → (b || list_any f xs) ≡ true → (list_any f xs ≡ true → (y : A) × Memᴰ y xs × (f y ≡ true))
          → (y : A) × Memᴰ y (x ∷ xs) × (f y ≡ true)
      go true p q r = (x, Memᴰ.head refl, p)
      go false p q r = let k = r q in (k.0, Memᴰ.tail k.1, k.2)

  pub any_index : (xs : List A) (d : A) → list_any f xs ≡ true → (k : ℕ) × (k < length xs) × (f (get_or xs k d) ≡ true)
  any_index xs d e =
      let a = Any-from_list_any f xs e in (a.0, a.2, ap f (get_or_default xs a.0 d a.1 a.2 ∙ a.3) ∙ a.4)

-- ---- two tests

swap_true : {A B : Type 0} (f : A → B → Bool) (xs : List A) (ys : List B) → list_any (λ x. list_any (f x) ys) xs ≡ true
    → list_any (λ y. list_any (λ x. f x y) xs) ys ≡ true
swap_true f xs ys e =
    let i = any_member (λ x. list_any (f x) ys) xs e in
    let j = any_member (f i.0) ys i.2 in
    member_any (λ y. list_any (λ x. f x y) xs) j.0 ys j.1 (member_any (λ x. f x j.0) i.0 xs i.1 j.2)

-- some pair passes, whichever list is gone through first
pub any_swap : {A B : Type 0} (f : A → B → Bool) (xs : List A) (ys : List B)
    → list_any (λ x. list_any (f x) ys) xs ≡ list_any (λ y. list_any (λ x. f x y) xs) ys
any_swap f xs ys = bool_ext _ _ (swap_true f xs ys) (swap_true (λ y x. f x y) ys xs)

pub any_same : {A : Type 0} (f g : A → Bool) (xs : List A) → ((x : A) → f x ≡ g x) → list_any f xs ≡ list_any g xs
any_same f g xs h = ap (λ (k : _ → Bool). list_any k xs) (fun_ext h)
