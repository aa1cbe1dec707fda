-- How many fillings the open words have: at least one, no more than 16 for each word, and a product.
-- Assumes nothing.
use mathlib.Core.Path.{◌≡◌, ◌∙◌, sym, subst}
use mathlib.Core.List.{List, [], ◌∷◌, map}
use Prim.Native.Nat.{ℕ, ◌*◌, ◌^◌, ◌≤◌, ◌<◌}
use native.Mathlib.Nat.{mul-le-mul, mul-pos, pow-succ', pow-le-pow_right, le-mul_of_pos_right, mul_assoc, mul-one, one-mul}
use native.Mathlib.Omega.{arith}
use lib.ListN.{length}
use Rattle.std.proofs.Common.{Option}
use Rattle.std.specs.List.{fold}
use Rattle.std.specs.Iterator.{AlwaysYields, Yields}
use Rattle.std.specs.Iterator.Runs.{EachRunFrom, YieldsRun}
use Rattle.std.proofs.lemmas.Iterator.{YieldsList}
use Rattle.partitioning.specs.Best.{candidate_count, filling_count}
use Rattle.partitioning.specs.Answer.{most_open}

candidates_low : (w : ℕ) → candidate_count w ≤ 16
candidates_low w = omega arith

pub count_pos : (os : List ℕ) → 1 ≤ filling_count os
unfolding filling_count
count_pos [] = omega arith
count_pos (w ∷ os) = mul-pos (omega arith) (count_pos os)

count_low : (os : List ℕ) → filling_count os ≤ 16 ^ length os
unfolding filling_count
count_low [] = omega arith
count_low (w ∷ os) = rw (pow-succ' 16 (length os)) (mul-le-mul (candidates_low w) (count_low os))

-- with as many open words as the chooser takes
pub count_fits : (os : List ℕ) → length os ≤ most_open → filling_count os ≤ 16 ^ most_open
count_fits os h = let k : 16 ^ length os ≤ 16 ^ most_open = pow-le-pow_right (omega arith) h in omega (arith, count_low os)

-- ---- as a product

abbrev product_from : ℕ → List ℕ → ℕ
product_from = fold ◌*◌

count_product_from : (a : ℕ) (os : List ℕ) → product_from a (map candidate_count os) ≡ a * filling_count os
unfolding filling_count
count_product_from a [] = sym (mul-one a)
count_product_from a (w ∷ os) = count_product_from (a * candidate_count w) os ∙ mul_assoc a (candidate_count w) (filling_count os)

pub count_product : (os : List ℕ) → filling_count os ≡ product_from 1 (map candidate_count os)
count_product os = sym (count_product_from 1 os ∙ one-mul (filling_count os))

-- what an iterator gives of them is a front, whose product is no larger
product_low : {S : Type 0} (steps : S → Option ℕ → S → Type 0) (a : ℕ) (os : List ℕ) (s : S)
    → AlwaysYields steps (λ x. x) s (map candidate_count os) → (xs : List ℕ) (t : S) → Yields steps s xs t
    → product_from a xs ≤ a * filling_count os
unfolding filling_count
product_low steps a os s e [] t y = le-mul_of_pos_right a (count_pos os)
product_low steps a [] s e (x ∷ xs) t y = absurd (e x y.0 y.1)
product_low steps a (w ∷ os) s e (x ∷ xs) t y =
    let n = e.1 x y.0 y.1 in
    rw (← mul_assoc a (candidate_count w) (filling_count os), ← n.0) (product_low steps (a * x) os y.0 n.1 xs t y.2)

pub product_fits : {S : Type 0} {steps : S → Option ℕ → S → Type 0} (os : List ℕ) (s : S) → length os ≤ most_open
    → YieldsList steps (λ x. x) s (map candidate_count os) → EachRunFrom steps s (λ p. product_from 1 p.items < 2 ^ 32)
unfolding YieldsRun
product_fits {S} {steps} os s h e = λ p seen at.
    omega (
      arith,
      count_fits os h,
      product_low steps 1 os s e.runs p.items p.gave.0.0
          (subst (λ u. Yields steps u p.items p.gave.0.0) at p.gave.0.1),
    )
