-- What the questions say of a well-formed word, a step's or a transaction's, by its fields.
-- Assumes nothing.
use mathlib.Core.Path.{◌≡◌, refl}
use mathlib.Core.Bool.{Bool, true, false, ◌&&◌, ◌||◌, cond, or-false}
use mathlib.Core.Logic.{◌⊎◌, inl, inr, ⊎_elim}
use Prim.Native.Nat.{ℕ, ◌≤◌}
use lib.Dec.{ltb, leb, eqb}
use native.Mathlib.Omega.{arith}
use borrow.Author.Tests.{leb-true, le-leb, le-ltb, eqb-true, ne_eqb}
use Rattle.lists.proofs.Laws.{and_fst, and_snd}
use Rattle.word.specs.Field.{kind_of, parameter_count, step_count, partitioning_field, row_source, fixed_row, operand_source, fixed_number}
use Rattle.word.specs.Reserved.{source_field}
use Rattle.plan.specs.Decode.{source_by, is_tell, step_of}
use Rattle.plan.specs.Admission.{partitioning_formed, transaction_formed, step_formed, one_if_tells, source_exists, step_exists}

pub step_kinds : (w : ℕ) → step_formed w ≡ true → ((3 ≤ kind_of w) × (kind_of w ≤ 8)) ⊎ (kind_of w ≡ 13)
unfolding step_formed
step_kinds w e = go (is_tell w) refl
  where
    go : (b : Bool) → is_tell w ≡ b → ((3 ≤ kind_of w) × (kind_of w ≤ 8)) ⊎ (kind_of w ≡ 13)
    go true t = inr (eqb-true (kind_of w) 13 t)
    go false t =
        let h : (leb 3 (kind_of w) && leb (kind_of w) 8) ≡ true = simp (t, or-false) at
        (and_fst ((leb 3 (kind_of w) && leb (kind_of w) 8) || is_tell w) _ e) in
        inl (leb-true 3 (kind_of w) (and_fst _ _ h), leb-true (kind_of w) 8 (and_snd (leb 3 (kind_of w)) _ h))

pub step_kind_low : (w : ℕ) → step_formed w ≡ true → 3 ≤ kind_of w
step_kind_low w e = ⊎_elim (λ h. h.0) (λ h. omega arith) (step_kinds w e)

-- what question 3 says of a transaction's word
pub transaction_kind : (w : ℕ) → transaction_formed w ≡ true → kind_of w ≡ 2
unfolding transaction_formed
transaction_kind w e = eqb-true (kind_of w) 2 (and_fst (eqb (kind_of w) 2) _ e)

pub transaction_params : (w : ℕ) → transaction_formed w ≡ true → parameter_count w ≤ 4
unfolding transaction_formed
transaction_params w e = leb-true (parameter_count w) 4 (and_fst _ _ (and_snd (eqb (kind_of w) 2) _ e))

pub transaction_steps : (w : ℕ) → transaction_formed w ≡ true → step_count w ≤ 12
unfolding transaction_formed
transaction_steps w e =
    let ranges = and_snd (leb (parameter_count w) 4) _ (and_snd (eqb (kind_of w) 2) _ e) in
    leb-true (step_count w) 12 (and_fst _ _ (and_snd (leb 1 (step_count w)) _ ranges))

pub transaction_partitioning : (w : ℕ) → transaction_formed w ≡ true → partitioning_formed (partitioning_field w) ≡ true
unfolding transaction_formed
transaction_partitioning w e =
    let ranges = and_snd (leb (parameter_count w) 4) _ (and_snd (eqb (kind_of w) 2) _ e) in
    and_fst (partitioning_formed (partitioning_field w)) _ (and_snd (leb (step_count w) 12) _ (and_snd (leb 1 (step_count w)) _ ranges))

source_exists_lem : (count s v : ℕ) → source_exists count (source_by s v) ≡ (eqb s 7 || ltb s count)
unfolding source_exists
source_exists_lem count s v = go (eqb s 7) refl
  where
    go : (b : Bool) → eqb s 7 ≡ b → source_exists count (source_by s v) ≡ (eqb s 7 || ltb s count)
    go true e = simp e
    go false e = simp e

-- question 4 of a step asks its source field, but for one that tells
pub tell_exists : (count w : ℕ) → kind_of w ≡ 13 → step_exists count (step_of w) ≡ true
unfolding step_of step_exists
tell_exists count w e = simp e

pub step_exists_lem : (count w : ℕ) → step_formed w ≡ true → (kind_of w ≡ 13 → ⊥)
    → step_exists count (step_of w) ≡ (eqb (source_field w) 7 || ltb (source_field w) count)
unfolding step_of step_exists source_field
step_exists_lem count w f n = go (leb (kind_of w) 4) refl
  where
    high : kind_of w ≤ 8
    high = ⊎_elim (λ h. h.1) (λ h. absurd (n h)) (step_kinds w f)

    go : (b : Bool) → leb (kind_of w) 4 ≡ b → step_exists count (step_of w) ≡ (eqb (source_field w) 7 || ltb (source_field w) count)
    go true e = simp (e, le-ltb (kind_of w) 3 (step_kind_low w f)) (source_exists_lem count (row_source w) (fixed_row w))
    go false e =
        simp (e, ne_eqb (kind_of w) 13 n, le-ltb (kind_of w) 3 (step_kind_low w f), le-leb (kind_of w) 8 high)
        (source_exists_lem count (operand_source w) (fixed_number w))

-- a word of kind 13 is a step that tells, and no other is
pub tell_of : (w : ℕ) → one_if_tells (step_of w) ≡ cond (is_tell w) 1 0
unfolding step_of
tell_of w = go (leb (kind_of w) 4) (is_tell w) refl refl
  where
    go : (a b : Bool) → leb (kind_of w) 4 ≡ a → is_tell w ≡ b → one_if_tells (step_of w) ≡ cond (is_tell w) 1 0
    go true true ea eb = absurd (omega (arith, leb-true (kind_of w) 4 ea, eqb-true (kind_of w) 13 eb))
    go true false ea eb = simp (ea, eb)
    go false true ea eb = simp (ea, eb)
    go false false ea eb = simp (ea, eb)
