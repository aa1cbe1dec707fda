-- The reserved bits of a word by its kind: a field from bit 0 on, and kinds that have the same bits, none, or no source.
-- Assumes nothing.
use Prim.Native.Nat.{ℕ, suc, ◌%◌, ◌^◌, ◌≤◌, ◌<◌}
use mathlib.Core.Path.{◌≡◌, ◌∙◌, refl, sym, ap}
use mathlib.Core.Bool.{true}
use mathlib.Core.Logic.{⊎_elim}
use native.Mathlib.Nat.{div-one, eq-or-lt_of_le, le_antisymm}
use native.Mathlib.Omega.{arith}
use lib.Dec.{eqb}
use borrow.Author.Tests.{eq-eqb, ne_eqb, le-ltb, le-leb, lt-leb}
use Rattle.word.specs.Field.{field, kind_of}
use Rattle.word.specs.Reserved.{source_field, zero_bits, reserved_zero}

-- ---- fields

pub lowest_field_zero : (count w : ℕ) → eqb (w % 2 ^ count) 0 ≡ eqb (field 0 count w) 0
lowest_field_zero count w = ap (λ (x : ℕ). eqb (x % 2 ^ count) 0) (sym (div-one w))

pub empty_field_zero : (w : ℕ) → true ≡ eqb (field 0 0 w) 0
empty_field_zero w = sym (eq-eqb (field 0 0 w) 0 (omega arith))

-- ---- by kind

pub same_kind : (j k s w : ℕ) → j ≤ k → k ≤ j → zero_bits j s w ≡ zero_bits k s w
same_kind j k s w l h = ap (λ (i : ℕ). zero_bits i s w) (le_antisymm l h)

-- one of two kinds that have the same bits
neighbour_kinds : (j k s w : ℕ) → j ≤ k → k ≤ suc j → zero_bits j s w ≡ zero_bits (suc j) s w → zero_bits j s w ≡ zero_bits k s w
neighbour_kinds j k s w l h e =
    ⊎_elim (λ q. ap (λ (i : ℕ). zero_bits i s w) q) (λ (g : j < k). e ∙ same_kind (suc j) k s w g h) (eq-or-lt_of_le l)

pub none_from_14 : (k s w : ℕ) → 14 ≤ k → k ≤ 15 → true ≡ zero_bits k s w
none_from_14 k s w l h = empty_field_zero w ∙ neighbour_kinds 14 k s w l h refl

-- ---- the word's own kind and source

pub none_below_2 : (w : ℕ) → kind_of w < 2 → true ≡ reserved_zero w
unfolding reserved_zero
none_below_2 w h = empty_field_zero w ∙ neighbour_kinds 0 (kind_of w) (source_field w) w (omega arith) (omega arith) refl

pub transaction_zero : (w : ℕ) → 2 ≤ kind_of w → kind_of w ≤ 2 → eqb (w % 2 ^ 7) 0 ≡ reserved_zero w
unfolding reserved_zero
transaction_zero w l h = lowest_field_zero 7 w ∙ same_kind 2 (kind_of w) (source_field w) w l h

pub access_zero : (s w : ℕ) → s ≡ source_field w → 3 ≤ kind_of w → kind_of w ≤ 4 → zero_bits 3 s w ≡ reserved_zero w
unfolding reserved_zero
access_zero s w e l h = ap (λ (i : ℕ). zero_bits 3 i w) e ∙ neighbour_kinds 3 (kind_of w) (source_field w) w l h refl

pub operand_zero : (s w : ℕ) → s ≡ source_field w → 5 ≤ kind_of w → kind_of w ≤ 8 → zero_bits 5 s w ≡ reserved_zero w
unfolding reserved_zero
operand_zero s w e l h =
    ap (λ (i : ℕ). zero_bits 5 i w) e
    ∙ simp (
      ne_eqb (kind_of w) 2 (λ q. omega arith),
      ne_eqb (kind_of w) 3 (λ q. omega arith),
      ne_eqb (kind_of w) 4 (λ q. omega arith),
      le-leb 5 (kind_of w) l,
      le-leb (kind_of w) 8 h,
    )

pub source_none : (w : ℕ) → 9 ≤ kind_of w → 0 ≡ source_field w
unfolding source_field
source_none w h = simp (le-ltb (kind_of w) 3 (omega arith), lt-leb (kind_of w) 4 (omega arith), lt-leb (kind_of w) 8 h)

pub sourceless_zero : (w : ℕ) → 9 ≤ kind_of w → zero_bits (kind_of w) 0 w ≡ reserved_zero w
unfolding reserved_zero
sourceless_zero w h = ap (λ (s : ℕ). zero_bits (kind_of w) s w) (source_none w h)
