-- The rows of one step, joined into their set.
-- Assumes nothing.
use mathlib.Core.Path.{◌≡◌, refl, ◌∙◌, sym, ap, ap₂}
use mathlib.Core.Bool.{Bool, true, false, not, ◌&&◌, cond, and-false}
use mathlib.Core.List.{List, ◌++◌}
use Prim.Native.Nat.{ℕ, ◌+◌, ◌-◌, ◌≤◌, ◌<◌}
use native.Mathlib.Omega.{arith}
use lib.Bits.{bit_or}
use lib.Dec.{leb, eqb}
use lib.ListN.{length, get_or, set, length-set}
use borrow.Author.Tests.{le-leb, lt-leb, eq-eqb, ne_eqb}
use Rattle.std.proofs.lemmas.Grind.{common_steps}
use Rattle.std.proofs.lemmas.List.{set-append_left, set-append_right}
use Rattle.word.specs.Field.{kind_of, row_source}
use Rattle.partitioning.specs.Touched.{table_column, rows_of, set_of, mark}

module _ (q w : ℕ) (t : List ℕ) where
  pub mark_past : 4 < kind_of w → mark q w t ≡ t
  unfolding mark
  mark_past h = rw (lt-leb (kind_of w) 4 h)

  pub mark_open_lem : q ≡ 14 → mark q w t ≡ t
  unfolding mark
  mark_open_lem e = rw (eq-eqb q 14 e, and-false (leb (kind_of w) 4))

  -- s is the set, and r are the rows
  pub mark_here : (s r : ℕ) → kind_of w ≤ 4 → (q ≡ 14 → ⊥) → s ≡ set_of q w → r ≡ rows_of w → set t s (bit_or (get_or t s 0) r) ≡ mark q w t
  unfolding mark
  mark_here s r h n e f =
      ap₂ (λ (i b : ℕ). set t i (bit_or (get_or t i 0) b)) e f ∙ sym (rw (le-leb (kind_of w) 4 h, ne_eqb q 14 n))

  pub mark_length : length (mark q w t) ≡ length t
  unfolding mark
  mark_length = go (leb (kind_of w) 4 && not (eqb q 14))
    where
      go : (b : Bool) → length (cond b (set t (set_of q w) (bit_or (get_or t (set_of q w) 0) (rows_of w))) t) ≡ length t
      go true = length-set t _ _
      go false = refl

-- ---- the three sets of each table column, which stand one behind the other

behind : (xs ys : List ℕ) → length xs ≡ 32 → (i j x : ℕ) → j ≡ 32 + i → xs ++ set ys i x ≡ set (xs ++ ys) j x
behind xs ys p i j x e =
    let same : j - 32 ≡ i = omega arith in
    ap (λ (n : ℕ). xs ++ set ys n x) (sym same) ∙ sym (set-append_right xs ys 32 j x p (omega arith))

module _ (e o d : List ℕ) (p : length e ≡ 32) (q : length o ≡ 32) (k : ℕ) (h : k < 32) where
  abbrev all_sets : List ℕ
  all_sets = e ++ (o ++ d)

  every_at : get_or all_sets k 0 ≡ get_or e k 0
  every_at = grind (arith, common_steps)

  own_at : get_or all_sets (32 + k) 0 ≡ get_or o k 0
  own_at = grind (arith, common_steps)

  desk0_at : get_or all_sets (64 + k) 0 ≡ get_or d k 0
  desk0_at = grind (arith, common_steps)

  every_put : (x : ℕ) → set e k x ++ (o ++ d) ≡ set all_sets k x
  every_put x = sym (set-append_left e (o ++ d) k x (omega arith))

  own_put : (x : ℕ) → e ++ (set o k x ++ d) ≡ set all_sets (32 + k) x
  own_put x =
      ap (λ (l : List ℕ). e ++ l) (sym (set-append_left o d k x (omega arith))) ∙ behind e (o ++ d) p k (32 + k) x refl

  desk0_put : (x : ℕ) → e ++ (o ++ set d k x) ≡ set all_sets (64 + k) x
  desk0_put x =
      ap (λ (l : List ℕ). e ++ l) (behind o d q k (32 + k) x refl) ∙ behind e (o ++ d) p (32 + k) (64 + k) x (omega arith)

  -- the rows r of a step, which join one of them under a partitioning that is not open
  module _ (g w r : ℕ) (kind : kind_of w ≤ 4) (known : g ≡ 14 → ⊥) (column : k ≡ table_column w) (rows : r ≡ rows_of w) where
    joined : (s x : ℕ) → x ≡ bit_or (get_or all_sets s 0) r → s ≡ set_of g w → set all_sets s x ≡ mark g w all_sets
    joined s x a b = ap (set all_sets s) a ∙ mark_here g w all_sets s r kind known b rows

    pub mark_desk0 : g ≡ 15 → e ++ (o ++ set d k (bit_or (get_or d k 0) r)) ≡ mark g w all_sets
    mark_desk0 f =
        desk0_put (bit_or (get_or d k 0) r)
        ∙ joined (64 + k) _ (ap (λ (x : ℕ). bit_or x r) (sym desk0_at)) (rw (eq-eqb g 15 f) (omega arith))

    pub mark_own : (g ≡ 15 → ⊥) → row_source w ≡ g → e ++ (set o k (bit_or (get_or o k 0) r) ++ d) ≡ mark g w all_sets
    mark_own n f =
        own_put (bit_or (get_or o k 0) r)
        ∙ joined (32 + k) _ (ap (λ (x : ℕ). bit_or x r) (sym own_at)) (rw (ne_eqb g 15 n, eq-eqb (row_source w) g f) (omega arith))

    pub mark_every : (g ≡ 15 → ⊥) → (row_source w ≡ g → ⊥) → set e k (bit_or (get_or e k 0) r) ++ (o ++ d) ≡ mark g w all_sets
    mark_every n f =
        every_put (bit_or (get_or e k 0) r)
        ∙ joined k _ (ap (λ (x : ℕ). bit_or x r) (sym every_at)) (rw (ne_eqb g 15 n, ne_eqb (row_source w) g f) (omega arith))
