-- A property of every element of a list, and of every pair.
-- Assumes nothing.
use Prim.Native.Nat.{ℕ, zero, suc, ◌<◌}
use mathlib.Core.Path.{◌≡◌, refl}
use mathlib.Core.Logic.{⊎_elim}
use mathlib.Core.List.Memᴰ
use mathlib.Core.List.{List, [], ◌∷◌, ◌++◌, Memᴰ}
use native.Mathlib.Omega.{arith}
use lib.ListN.{length, get_or}
use Rattle.std.specs.List.{AllByRecursion}
use Rattle.lists.specs.Lists.Properties.{Pairs}

pub All_append : {A : Type 0} (P : A → Type 0) (xs ys : List A) → AllByRecursion P xs → AllByRecursion P ys → AllByRecursion P (xs ++ ys)
All_append P [] ys h k = k
All_append P (x ∷ xs) ys h k = (h.0, All_append P xs ys h.1 k)

pub All_left : {A : Type 0} (P : A → Type 0) (xs ys : List A) → AllByRecursion P (xs ++ ys) → AllByRecursion P xs
All_left P [] ys h = tt
All_left P (x ∷ xs) ys h = (h.0, All_left P xs ys h.1)

pub All_right : {A : Type 0} (P : A → Type 0) (xs ys : List A) → AllByRecursion P (xs ++ ys) → AllByRecursion P ys
All_right P [] ys h = h
All_right P (x ∷ xs) ys h = All_right P xs ys h.1

pub All_part : {A : Type 0} (P Q : A → Type 0) (xs : List A) → ((x : A) → P x → Q x) → AllByRecursion P xs → AllByRecursion Q xs
All_part P Q [] f h = tt
All_part P Q (x ∷ xs) f h = (f x h.0, All_part P Q xs f h.1)

pub All_mem : {A : Type 0} (P : A → Type 0) (x : A) (xs : List A) → Memᴰ x xs → AllByRecursion P xs → P x
All_mem P x [] m h = absurd (Memᴰ.not-nil m)
All_mem {A} P x (y ∷ ys) m h = ⊎_elim (λ (e : x ≡ y). rw e h.0) (λ k. All_mem P x ys k h.1) (Memᴰ.cases_cons m)

pub mem_All : {A : Type 0} (P : A → Type 0) (xs : List A) → ((x : A) → Memᴰ x xs → P x) → AllByRecursion P xs
mem_All P [] f = tt
mem_All P (x ∷ xs) f = (f x (Memᴰ.head refl), mem_All P xs (λ y m. f y (Memᴰ.tail m)))

-- ---- every pair, the earlier first

pub Pairs_append : {A : Type 0} (R : A → A → Type 0) (xs ys : List A) → Pairs R xs → Pairs R ys
    → AllByRecursion (λ (x : A). AllByRecursion (R x) ys) xs →
    Pairs R (xs ++ ys)
Pairs_append R [] ys h k c = k
Pairs_append R (x ∷ xs) ys h k c = (All_append (R x) xs ys h.0 c.0, Pairs_append R xs ys h.1 k c.1)

pub Pairs_part : {A : Type 0} (P : A → Type 0) (R Q : A → A → Type 0) (xs : List A) → ((x y : A) → P x → P y → R x y → Q x y) →
    AllByRecursion P xs → Pairs R xs → Pairs Q xs
Pairs_part P R Q [] f h k = tt
Pairs_part P R Q (x ∷ xs) f h k = (related xs h.1 k.0, Pairs_part P R Q xs f h.1 k.1)
  where
    related : (ys : List _) → AllByRecursion P ys → AllByRecursion (R x) ys → AllByRecursion (Q x) ys
    related [] a b = tt
    related (y ∷ ys) a b = (f x y h.0 a.0 b.0, related ys a.1 b.1)

-- at one place, and at two
pub All_get_or : {A : Type 0} (P : A → Type 0) (xs : List A) (d : A) → AllByRecursion P xs → (i : ℕ) → i < length xs → P (get_or xs i d)
All_get_or P [] d h i l = absurd (omega arith)
All_get_or P (x ∷ xs) d h zero l = h.0
All_get_or P (x ∷ xs) d h (suc i) l = All_get_or P xs d h.1 i (omega arith)

pub Pairs_get_or : {A : Type 0} (R : A → A → Type 0) (xs : List A) (d : A) → Pairs R xs → (i j : ℕ) → i < j → j < length xs →
    R (get_or xs i d) (get_or xs j d)
Pairs_get_or R [] d h i j l k = absurd (omega arith)
Pairs_get_or R (x ∷ xs) d h i zero l k = absurd (omega arith)
Pairs_get_or R (x ∷ xs) d h zero (suc j) l k = All_get_or (R x) xs d h.0 j (omega arith)
Pairs_get_or R (x ∷ xs) d h (suc i) (suc j) l k = Pairs_get_or R xs d h.1 i j (omega arith) (omega arith)
