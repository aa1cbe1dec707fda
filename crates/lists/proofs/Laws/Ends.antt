-- A list with one entry more at its end, and a joined list with nothing in it.
-- Assumes nothing.
use Prim.Native.Nat.{ℕ, suc}
use mathlib.Core.Path.{◌≡◌, refl, sym, ◌∙◌}
use mathlib.Core.Logic.{◌≢◌, ⊎_elim}
use mathlib.Core.List.Memᴰ
use mathlib.Core.List.{List, [], ◌∷◌, ◌++◌, Memᴰ}
use native.Mathlib.Omega.{arith}
use lib.ListN.{length, get_or, get_or-append, get_or-eq_default, length-append}
use Rattle.std.proofs.lemmas.List.{get_or_push}
use Rattle.lists.proofs.Laws.Tests.{by_same, by_less}

-- ---- nothing in a joined list

pub none_left : {A : Type 0} (xs ys : List A) → xs ++ ys ≡ [] → xs ≡ []
none_left [] ys h = refl
none_left (x ∷ xs) ys h = cc

pub none_right : {A : Type 0} (xs ys : List A) → xs ++ ys ≡ [] → ys ≡ []
none_right [] ys h = h
none_right (x ∷ xs) ys h = cc

-- ---- one more entry

pub one_more : {A : Type 0} (xs : List A) (x : A) → suc (length xs) ≡ length (xs ++ (x ∷ []))
one_more xs x = simp length-append (omega arith)

pub snoc_other : {A : Type 0} (xs : List (List A)) (x : List A) (i : ℕ) → i ≢ length xs → get_or (xs ++ (x ∷ [])) i [] ≡ get_or xs i []
snoc_other xs x i h =
    by_less i (length xs) (λ l. get_or-append xs (x ∷ []) [] i l)
    (λ l. get_or-eq_default (xs ++ (x ∷ [])) [] (simp length-append (omega arith)) ∙ sym (get_or-eq_default xs [] l))

pub snoc_nil : {A : Type 0} (xs : List (List A)) (i : ℕ) → get_or (xs ++ ([] ∷ [])) i [] ≡ get_or xs i []
snoc_nil {A} xs i =
    by_same i (length xs) (λ e. rw e (get_or_push xs [] [] (length xs) refl
    ∙ sym (get_or-eq_default xs [] (omega arith)))) (λ e. snoc_other xs [] i e)

-- ---- its members are the entry and those before

module _ {A : Type 0} (xs : List A) (x t : A) where
  pub cons_in_snoc : Memᴰ t (x ∷ xs) → Memᴰ t (xs ++ (x ∷ []))
  cons_in_snoc m =
      ⊎_elim (λ (e : t ≡ x). Memᴰ.append_right xs (Memᴰ.head e)) (λ (k : Memᴰ t xs). Memᴰ.append_left (x ∷ []) k)
      (Memᴰ.cases_cons m)

  pub snoc_in_cons : Memᴰ t (xs ++ (x ∷ [])) → Memᴰ t (x ∷ xs)
  snoc_in_cons m =
      ⊎_elim (λ (k : Memᴰ t xs). Memᴰ.tail k) (λ (k : Memᴰ t (x ∷ [])). Memᴰ.head (Memᴰ.eq_of_singleton k))
      (Memᴰ.append_cases xs m)
