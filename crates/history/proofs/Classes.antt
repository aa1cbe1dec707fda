-- The laws asked of the operations hold of classes by masks: of a class computed from which desks may touch and write each cell.
-- Assumes nothing.
use Prim.Native.Nat.{ℕ, ◌<◌}
use mathlib.Core.Path.{◌≡◌, refl, ◌∙◌, sym}
use mathlib.Core.Logic.{◌⊎◌, inr}
use mathlib.Core.Bool.{Bool, true, false, cond}
use mathlib.Core.List.Memᴰ
use mathlib.Core.List.{List, [], ◌∷◌, Memᴰ}
use native.Mathlib.Omega.{arith}
use lib.Dec.{eqb, eqb→eq}
use Rattle.std.specs.List.{list_all}
use Rattle.std.proofs.lemmas.Float.{T_from_true}
use Rattle.lists.proofs.Laws.{all_member}
use Rattle.conflict.proofs.Ones.{count_of, none_of_count, one_of_count}
use Rattle.serial.specs.System.{Class, free, local, global}

module _ (n : ℕ) (touched written : ℕ → ℕ → Bool) where
  -- "the number of desks is the count of ones in it"
  abbrev touched_by : ℕ → ℕ → Bool
  touched_by k c = eqb (count_of n (touched c)) k

  abbrev written_by : ℕ → ℕ → Bool
  written_by k c = eqb (count_of n (written c)) k

  -- of an operation by the cells it may read and write. Writing: local if just one desk may touch each cell that it writes.
  -- Writing nothing: free if no desk may write what it reads, else local.
  abbrev pub class_by : List ℕ → List ℕ → Class
  class_by rs [] = cond (list_all (written_by 0) rs) free local
  class_by rs (w ∷ ws) = cond (list_all (touched_by 1) (w ∷ ws)) local global

  by_free : (b : Bool) → cond b free local ≡ free → b ≡ true
  by_free true e = refl
  by_free false e = cc

  by_local : (b : Bool) → cond b local global ≡ local → b ≡ true
  by_local true e = refl
  by_local false e = cc

  by_never : (b : Bool) → cond b local global ≡ free → ⊥
  by_never true e = let z : ◌≡◌ {A = ℕ} 0 1 = cc in omega arith
  by_never false e = let z : ◌≡◌ {A = ℕ} 0 1 = cc in omega arith

  free_none : (rs ws : List ℕ) (c : ℕ) → class_by rs ws ≡ free → Memᴰ c ws → ⊥
  free_none rs [] c e m = Memᴰ.not-nil m
  free_none rs (w ∷ ws) c e m = by_never (list_all (touched_by 1) (w ∷ ws)) e

  count : (f : ℕ → ℕ → Bool) (k : ℕ) (cs : List ℕ) (c : ℕ) → list_all (λ c. eqb (count_of n (f c)) k) cs ≡ true →
      Memᴰ c cs → count_of n (f c) ≡ k
  count f k cs c e m = eqb→eq (count_of n (f c)) k (T_from_true _ (all_member (λ c. eqb (count_of n (f c)) k) cs c e m))

  free_unwritten : (rs ws : List ℕ) (c : ℕ) → class_by rs ws ≡ free → Memᴰ c rs → count_of n (written c) ≡ 0
  free_unwritten rs [] c e m = count written 0 rs c (by_free (list_all (written_by 0) rs) e) m
  free_unwritten rs (w ∷ ws) c e m = absurd (by_never (list_all (touched_by 1) (w ∷ ws)) e)

  local_one : (rs ws : List ℕ) (c : ℕ) → class_by rs ws ≡ local → Memᴰ c ws → count_of n (touched c) ≡ 1
  local_one rs [] c e m = absurd (Memᴰ.not-nil m)
  local_one rs (w ∷ ws) c e m = count touched 1 (w ∷ ws) c (by_local (list_all (touched_by 1) (w ∷ ws)) e) m

  -- operations whose touches and writes the masks hold
  module _ {Op : Type 0} (reads writes : Op → List ℕ) (desk : Op → ℕ) (below : (o : Op) → desk o < n)
      (touches : (o : Op) (c : ℕ) → Memᴰ c (reads o) ⊎ Memᴰ c (writes o) → touched c (desk o) ≡ true)
      (writings : (o : Op) (c : ℕ) → Memᴰ c (writes o) → written c (desk o) ≡ true) where
    -- Laws' free_writes, free_reads and local_alone
    pub class_free_writes : (o : Op) → class_by (reads o) (writes o) ≡ free → (c : ℕ) → Memᴰ c (writes o) → ⊥
    class_free_writes o e c m = free_none (reads o) (writes o) c e m

    pub class_free_reads : (o : Op) → class_by (reads o) (writes o) ≡ free → (c : ℕ) → Memᴰ c (reads o) →
        (o' : Op) → Memᴰ c (writes o') → ⊥
    class_free_reads o e c m o' k =
        none_of_count n (written c) (free_unwritten (reads o) (writes o) c e m) (desk o') (below o') (writings o' c k)

    pub class_local_alone : (o : Op) → class_by (reads o) (writes o) ≡ local → (c : ℕ) → Memᴰ c (writes o) →
        (o' : Op) → Memᴰ c (reads o') ⊎ Memᴰ c (writes o') → desk o' ≡ desk o
    class_local_alone o e c m o' k =
        let one = one_of_count n (touched c) (local_one (reads o) (writes o) c e m) in
        one.3 (desk o') (below o') (touches o' c k) ∙ sym (one.3 (desk o) (below o) (touches o c (inr m)))
