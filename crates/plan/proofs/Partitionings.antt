-- What a partitioning field stands for, by whether it names a parameter and whether it is decided.
-- Assumes nothing.
use mathlib.Core.Path.{◌≡◌, refl, ◌∙◌, sym}
use mathlib.Core.Bool.{Bool, true, false, not, ◌||◌, cond, false≢true}
use mathlib.Core.Logic.{◌⊎◌, inl, inr}
use Prim.Native.Nat.{ℕ, ◌<◌}
use native.Mathlib.Omega.{arith}
use lib.Dec.{ltb, eqb}
use borrow.Author.Tests.{ltb-true, eqb-true}
use Rattle.plan.specs.Plan.{by_param, unpartitioned, undecided, Partitioning}
use Rattle.plan.specs.Decode.{names_no_parameter, part_by}
use Rattle.plan.specs.Admission.{partitioning_formed, part_decided}

pub names_parameter : (q : ℕ) → names_no_parameter q ≡ false → part_by q ≡ by_param q
unfolding part_by
names_parameter q = go (eqb q 14) (eqb q 15)
  where
    go : (a b : Bool) → (a || b) ≡ false → cond b unpartitioned (cond a undecided (by_param q)) ≡ by_param q
    go true b e = absurd (false≢true (sym e))
    go false true e = absurd (false≢true (sym e))
    go false false e = refl

-- what holds of the two that name none
pub no_parameter_elim : (P : Partitioning → Type 0) (q : ℕ) → names_no_parameter q ≡ true → P unpartitioned → P undecided → P (part_by q)
unfolding part_by
no_parameter_elim P q e x y = go (eqb q 14) (eqb q 15) e
  where
    go : (a b : Bool) → (a || b) ≡ true → P (cond b unpartitioned (cond a undecided (by_param q)))
    go a true e = x
    go true false e = y
    go false false e = absurd (false≢true e)

-- ---- decided, which is not open

pub part_decided_lem : (q : ℕ) → part_decided (part_by q) ≡ not (eqb q 14)
unfolding part_by
part_decided_lem q = go (eqb q 15) (eqb q 14) refl refl
  where
    go : (a b : Bool) → eqb q 15 ≡ a → eqb q 14 ≡ b → part_decided (cond a unpartitioned (cond b undecided (by_param q))) ≡ not b
    go true true ea eb = absurd (omega (arith, eqb-true q 15 ea, eqb-true q 14 eb))
    go true false ea eb = refl
    go false true ea eb = refl
    go false false ea eb = refl

-- a field that question 3 takes, and that is decided
pub formed_decided : (q : ℕ) → partitioning_formed q ≡ true → part_decided (part_by q) ≡ true → (q < 4) ⊎ (q ≡ 15)
formed_decided q form closed = go (ltb q 4) (eqb q 14) (eqb q 15) refl refl form (sym (part_decided_lem q) ∙ closed)
  where
    go : (a b c : Bool) → ltb q 4 ≡ a → eqb q 15 ≡ c → (a || (b || c)) ≡ true → not b ≡ true → (q < 4) ⊎ (q ≡ 15)
    go true b c ea ec f h = inl (ltb-true q 4 ea)
    go false true c ea ec f h = absurd (false≢true h)
    go false false true ea ec f h = inr (eqb-true q 15 ec)
    go false false false ea ec f h = absurd (false≢true f)
