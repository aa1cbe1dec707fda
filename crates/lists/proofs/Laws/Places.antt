-- The element at a place is a member; a list from a place on: either nothing is left, or the element there and what is behind it.
-- Assumes nothing.
use mathlib.Core.Path.{◌≡◌, refl}
use mathlib.Core.Logic.{◌⊎◌, inl, inr}
use mathlib.Core.List.{List, [], ◌∷◌, Memᴰ}
use Prim.Native.Nat.{ℕ, zero, suc, ◌+◌, ◌<◌}
use native.Mathlib.Nat.{not-suc-le-zero, le_of_suc-le-suc}
use lib.ListN.{length, get_or, drop}
use Rattle.std.proofs.lemmas.List.{drop_more, drop_all}
use Rattle.lists.proofs.Laws.Tests.{by_less}

pub get_or_member : {A : Type 0} (l : List A) (i : ℕ) (d : A) → i < length l → Memᴰ (get_or l i d) l
get_or_member [] i d h = absurd (not-suc-le-zero h)
get_or_member (x ∷ l) zero d h = Memᴰ.head refl
get_or_member (x ∷ l) (suc i) d h = Memᴰ.tail (get_or_member l i d (le_of_suc-le-suc h))

pub drop_cases : {A : Type 0} (l : List A) (i : ℕ) (d : A)
    → (drop i l ≡ []) ⊎ ((i < length l) × (drop i l ≡ get_or l i d ∷ drop (i + 1) l))
drop_cases l i d = by_less i (length l) (λ h. inr (h, drop_more l i d h)) (λ h. inl (drop_all i l h))
