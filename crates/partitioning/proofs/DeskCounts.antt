-- How many desks touch a row, by the three sets: a test that antt computes over all numbers of desks.
-- Assumes nothing.
use mathlib.Core.Path.{◌≡◌, refl, sym}
use mathlib.Core.Bool.{Bool, true, false, not, ◌&&◌, ◌||◌, beq, false≢true}
use Prim.Native.Nat.{ℕ, ◌≤◌, ◌<◌}
use native.Mathlib.Omega.{arith}
use lib.Count.{ones}
use lib.Dec.{T, ltb, leb, eqb}
use borrow.Author.Tests.{lt-leb}
use Rattle.lists.proofs.Laws.{below, below_at}
use Rattle.conflict.specs.Mask.{mask_of}
use Rattle.partitioning.proofs.TouchedRows.{touched_by}

-- two desks or more
abbrev several : ℕ → ℕ → Bool → Bool → Bool → Bool
several n m e o z = ltb 1 (ones (mask_of n (touched_by n m e o z)))

-- every desk touches it and there are two, or the row's own desk and desk 0 do and they are two
abbrev pub several_by : ℕ → ℕ → Bool → Bool → Bool → Bool
several_by n m e o z = (e && not (eqb n 1)) || ((o && z) && not (eqb m 0))

abbrev several_test : Bool → Bool → Bool → ℕ → ℕ → Bool
several_test e o z n m = leb n m || beq (several n m e o z) (several_by n m e o z)

same_is : (a b c : Bool) → a ≡ false → T (a || beq b c) → b ≡ c
same_is true b c e t = absurd (false≢true (sym e))
same_is false true true e t = refl
same_is false true false e t = absurd t
same_is false false true e t = absurd t
same_is false false false e t = refl

all_several : (e o z : Bool) → T (below 9 (λ n. below 8 (several_test e o z n)))
unfolding mask_of ones
all_several true true true = tt
all_several true true false = tt
all_several true false true = tt
all_several true false false = tt
all_several false true true = tt
all_several false true false = tt
all_several false false true = tt
all_several false false false = tt

pub several_desks : (n m : ℕ) (e o z : Bool) → n ≤ 8 → m < n → several n m e o z ≡ several_by n m e o z
several_desks n m e o z h l =
    same_is (leb n m) (several n m e o z) (several_by n m e o z) (lt-leb n m l)
    (below_at 8 (several_test e o z n) (below_at 9 (λ n. below 8 (several_test e o z n)) (all_several e o z) n (omega arith)) m
    (omega arith))
