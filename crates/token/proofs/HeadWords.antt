-- The words of kinds 9, 10 and 11: reading the fields of a written word, and writing the fields that were read.
-- Assumes nothing.
use mathlib.Core.Path.{◌≡◌, ◌∙◌, sym, ap}
use mathlib.Core.Bool.{true}
use Prim.Native.Nat.{ℕ, ◌+◌, ◌*◌, ◌/◌, ◌%◌, ◌^◌, ◌≤◌, ◌<◌}
use native.Mathlib.Omega.{arith}
use lib.Dec.{ltb, eqb}
use borrow.Author.Tests.{eqb-true, eq-eqb, ltb-true, lt-ltb, leb-true, le-leb}
use Rattle.std.proofs.lemmas.Bool.{and_from}
use Rattle.lists.proofs.Laws.{and_fst, and_snd}
use Rattle.word.specs.Field.{kind_of, addressed_desk, frame_length, update_desk, cell_count, cell_field}
use Rattle.word.specs.Reserved.{reserved_zero, source_field, zero_bits}
use Rattle.frame.specs.Frame.{frame_head, update_head, cell_word}
use Rattle.frame.specs.Admission.{update_formed, cell_formed}

-- a word's reserved bits go by its kind
by_kind : (w k : ℕ) → kind_of w ≡ k → reserved_zero w ≡ zero_bits k (source_field w) w
unfolding reserved_zero
by_kind w k e = ap (λ (j : ℕ). zero_bits j (source_field w) w) e

-- ---- kind 9

pub head_read : (w : ℕ) → kind_of w ≡ 9 → reserved_zero w ≡ true → w ≡ frame_head (addressed_desk w) (frame_length w)
head_read w k z = lemma w k (eqb-true (w / 2 ^ 16 % 2 ^ 8) 0 (sym (by_kind w 9 k) ∙ z))
  where
    lemma : (w : ℕ) → kind_of w ≡ 9 → w / 2 ^ 16 % 2 ^ 8 ≡ 0 → w ≡ frame_head (addressed_desk w) (frame_length w)
    lemma w k z = omega arith

module _ (d n : ℕ) (hd : d < 16) (hn : n < 2 ^ 16) where
  pub head_kind : kind_of (frame_head d n) ≡ 9
  head_kind = omega arith

  pub head_zero : reserved_zero (frame_head d n) ≡ true
  head_zero = by_kind (frame_head d n) 9 head_kind ∙ eq-eqb (frame_head d n / 2 ^ 16 % 2 ^ 8) 0 (omega arith)

  pub head_desk : addressed_desk (frame_head d n) ≡ d
  head_desk = omega arith

  pub head_length : frame_length (frame_head d n) ≡ n
  head_length = omega arith

-- ---- kind 10

digits : (x : ℕ) → x / 16 / 16 ≡ 10 → x ≡ 2560 + (x / 16 % 16 % 16 * 16 + x % 16 % 16)
digits x e = omega arith

update_word : (w : ℕ) → kind_of w ≡ 10 → w / 2 ^ 0 % 2 ^ 20 ≡ 0 → w ≡ update_head (update_desk w) (cell_count w)
update_word w k z =
    let q = w / 2 ^ 20 in
    let whole : w ≡ q * 2 ^ 20 = omega arith in
    let high : w / 2 ^ 24 ≡ q / 16 = omega arith in
    let kind : q / 16 / 16 ≡ 10 = omega arith in
    let desk : w / 2 ^ 24 % 2 ^ 4 % 2 ^ 4 ≡ q / 16 % 16 % 16 = ap (λ (x : ℕ). x % 16 % 16) high in
    omega (arith, whole, desk, digits q kind)

pub record UpdateRead (n w : ℕ) : Type 0 where
  pub word : w ≡ update_head (update_desk w) (cell_count w)
  pub desk : update_desk w < n
  pub cells : cell_count w ≤ 12

pub update_read : (n w : ℕ) → update_formed n w ≡ true → UpdateRead n w
unfolding update_formed
update_read n w e =
    let k = eqb-true (kind_of w) 10 (and_fst _ _ e) in
    let z = and_snd (eqb (kind_of w) 10) _ e in
    let r = and_snd (reserved_zero w) _ z in
    record {
      word = update_word w k (eqb-true (w / 2 ^ 0 % 2 ^ 20) 0 (sym (by_kind w 10 k) ∙ and_fst (reserved_zero w) _ z));
      desk = ltb-true (update_desk w) n (and_fst _ _ r);
      cells = leb-true (cell_count w) 12 (and_snd (ltb (update_desk w) n) _ r);
    }

module _ (d k : ℕ) (hd : d < 16) (hk : k ≤ 12) where
  pub update_desk_lem : update_desk (update_head d k) ≡ d
  update_desk_lem = omega arith

  pub update_cells : cell_count (update_head d k) ≡ k
  update_cells = omega arith

  update_kind : kind_of (update_head d k) ≡ 10
  update_kind = omega arith

  pub update_formed_lem : (n : ℕ) → d < n → update_formed n (update_head d k) ≡ true
  unfolding update_formed
  update_formed_lem n h =
      and_from _ _ (eq-eqb (kind_of (update_head d k)) 10 update_kind)
      (and_from _ _ (by_kind (update_head d k) 10 update_kind ∙ eq-eqb (update_head d k / 2 ^ 0 % 2 ^ 20) 0 (omega arith))
      (and_from _ _ (lt-ltb (update_desk (update_head d k)) n (omega (arith, update_desk_lem)))
      (le-leb (cell_count (update_head d k)) 12 (omega (arith, update_cells)))))

-- ---- kind 11

pub cell_read : (w : ℕ) → cell_formed w ≡ true → w ≡ cell_word (cell_field w)
unfolding cell_formed
cell_read w e =
    let k = eqb-true (kind_of w) 11 (and_fst _ _ e) in
    lemma w k (eqb-true (w / 2 ^ 10 % 2 ^ 18) 0 (sym (by_kind w 11 k) ∙ and_snd (eqb (kind_of w) 11) _ e))
  where
    lemma : (w : ℕ) → kind_of w ≡ 11 → w / 2 ^ 10 % 2 ^ 18 ≡ 0 → w ≡ cell_word (cell_field w)
    lemma w k z = omega arith

module _ (c : ℕ) (h : c < 1024) where
  pub cell_field_lem : cell_field (cell_word c) ≡ c
  cell_field_lem = omega arith

  cell_kind : kind_of (cell_word c) ≡ 11
  cell_kind = omega arith

  pub cell_formed_lem : cell_formed (cell_word c) ≡ true
  unfolding cell_formed
  cell_formed_lem =
      and_from _ _ (eq-eqb (kind_of (cell_word c)) 11 cell_kind)
      (by_kind (cell_word c) 11 cell_kind ∙ eq-eqb (cell_word c / 2 ^ 10 % 2 ^ 18) 0 (omega arith))
