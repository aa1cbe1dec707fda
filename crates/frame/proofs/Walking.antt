-- Question 12 as a walk over the words: what is still to come gives the whole answer, with a count for each desk of what has passed.
-- Assumes nothing.
use Rattle.std.proofs.Common.{◌≡◌, ℕ, zero, suc, ◌+◌, ◌-◌, ◌<◌, ◌≤◌, Bool, true, false, ◌&&◌, eqb, ltb, leb, List, []}
use Rattle.std.proofs.Common.{◌∷◌, length, get_or, drop, set, replicate, sym, refl}
use Rattle.std.proofs.Common.{ap, ◌∙◌, arith, length-set, ltb-true, lt-ltb, ne_eqb}
use mathlib.Core.Bool.{and_assoc, and-false}
use Rattle.lists.proofs.Laws.{and_fst, and_snd, all_same}
use Rattle.word.specs.Field.{kind_of, update_desk, cell_count}
use Rattle.word.specs.Reserved.{reserved_zero}
use Rattle.frame.specs.Frame.{SentUpdate, sent}
use Rattle.frame.specs.Admission.{writes_from, updates_from, update_formed, cell_formed, well_formed, desk_count, few_per_desk}
use Rattle.frame.specs.Admission.{updates_admitted}
use Rattle.frame.proofs.PerDesk.{few_on, few_next}

-- the counts with one update more of a desk
abbrev pub counted : List ℕ → ℕ → List ℕ
counted s d = set s d (get_or s d 0 + 1)

-- the words from here on are well formed, `left` cells of an update first, and no desk's count comes above 32
unfoldable pub rest : ℕ → List ℕ → ℕ → List ℕ → Bool
rest n s zero [] = true
rest n s zero (w ∷ ws) =
    update_formed n w && (ltb (get_or s (update_desk w) 0) 32 && rest n (counted s (update_desk w)) (cell_count w) ws)
rest n s (suc left) [] = false
rest n s (suc left) (w ∷ []) = false
rest n s (suc left) (w ∷ v ∷ ws) = cell_formed w && rest n s left ws

-- what question 12 says of an update's word
pub formed_desk : (n w : ℕ) → update_formed n w ≡ true → update_desk w < n
unfolding update_formed
formed_desk n w e =
    ltb-true (update_desk w) n (and_fst (ltb (update_desk w) n) _ (and_snd (reserved_zero w) _ (and_snd (eqb (kind_of w) 10) _ e)))

-- the desk of a well-formed update is one of at most 8
pub desk_below : (n w : ℕ) → n ≤ 8 → update_formed n w ≡ true → update_desk w < 8
desk_below n w few formed = omega (arith, formed_desk n w formed)

-- ---- one word or two at a time

module _ (n : ℕ) (s : List ℕ) (left : ℕ) where
  pub rest_update : (w : ℕ) (ws : List ℕ) → left ≡ 0 → rest n s left (w ∷ ws)
      ≡ (update_formed n w && (ltb (get_or s (update_desk w) 0) 32 && rest n (counted s (update_desk w)) (cell_count w) ws))
  unfolding rest
  rest_update w ws z = rw z

  pub rest_cell : (w : ℕ) (ws : List ℕ) → (left ≡ 0 → ⊥)
      → rest n s left (w ∷ ws) ≡ (cell_formed w && (ltb 0 (length ws) && rest n s (left - 1) (drop 1 ws)))
  unfolding rest
  rest_cell w ws z =
      let k : left ≡ suc (left - 1) = omega arith in
      ap (λ (x : ℕ). rest n s x (w ∷ ws)) k ∙ go ws
    where
      go : (ws : List ℕ) → rest n s (suc (left - 1)) (w ∷ ws) ≡ (cell_formed w && (ltb 0 (length ws) && rest n s (left - 1) (drop 1 ws)))
      go [] = sym (and-false (cell_formed w))
      go (v ∷ ws) = rw (lt-ltb 0 (suc (length ws)) (omega arith))

  pub rest_end : (ws : List ℕ) → length ws ≡ 0 → rest n s left ws ≡ eqb left 0
  unfolding rest
  rest_end [] e = go left
    where
      go : (k : ℕ) → rest n s k [] ≡ eqb k 0
      go zero = refl
      go (suc k) = sym (ne_eqb (suc k) 0 (λ e. omega arith))
  rest_end (w ∷ ws) e = absurd (omega arith)

  pub rest_counted : (w : ℕ) (ws : List ℕ) → left ≡ 0 → update_formed n w ≡ true → get_or s (update_desk w) 0 < 32
      → rest n s left (w ∷ ws) ≡ rest n (counted s (update_desk w)) (cell_count w) ws
  rest_counted w ws z e m = rest_update w ws z ∙ rw (e, lt-ltb (get_or s (update_desk w) 0) 32 m)

-- ---- the whole answer

swap : (f a w e : Bool) → (f && (a && (w && e))) ≡ ((f && w) && (a && e))
swap false a w e = refl
swap true false true e = refl
swap true false false e = refl
swap true true w e = refl

-- after a formed update's word
one_update : (n w : ℕ) (s : List ℕ) (r W : Bool) (u : SentUpdate) (us : List SentUpdate) → u.desk ≡ update_desk w → n ≤ length s
    → r ≡ (W && few_on (counted s (update_desk w)) us)
    → (update_formed n w && (ltb (get_or s (update_desk w) 0) 32 && r)) ≡ ((update_formed n w && W) && few_on s (u ∷ us))
one_update n w s r W u us d l e = go (update_formed n w) refl
  where
    go : (b : Bool) → update_formed n w ≡ b → (b && (ltb (get_or s (update_desk w) 0) 32 && r)) ≡ ((b && W) && few_on s (u ∷ us))
    go false q = refl
    go true q =
        let h : u.desk < length s = omega (arith, formed_desk n w q) in
        rw (few_next s u us h, d, e) (swap true (ltb (get_or s (update_desk w) 0) 32) W _)

whole : (n : ℕ) (s : List ℕ) (left : ℕ) (ws : List ℕ) → n ≤ length s
    → rest n s left ws ≡ (well_formed n left ws && few_on s (updates_from left ws))
unfolding rest well_formed updates_from
whole n s zero [] l = refl
whole n s zero (w ∷ ws) l =
    one_update n w s _ _ (sent (update_desk w) (writes_from (cell_count w) ws)) (updates_from (cell_count w) ws) refl l
    (whole n (counted s (update_desk w)) (cell_count w) ws (omega (arith, length-set s (update_desk w) (get_or s (update_desk w) 0 + 1))))
whole n s (suc left) [] l = refl
whole n s (suc left) (w ∷ []) l = refl
whole n s (suc left) (w ∷ v ∷ ws) l =
    ap (λ (b : Bool). cell_formed w && b) (whole n s left ws l) ∙ sym (and_assoc (cell_formed w) (well_formed n left ws) _)

-- with no update counted, the counts of the list alone
abbrev pub no_counts : ℕ → List ℕ
no_counts n = replicate n 0

no_count : (n d : ℕ) → get_or (no_counts n) d 0 ≡ 0
no_count zero d = refl
no_count (suc n) zero = refl
no_count (suc n) (suc d) = no_count n d

none_counted : (us : List SentUpdate) → few_on (no_counts 8) us ≡ few_per_desk us
unfolding few_per_desk
none_counted us = all_same _ (λ u. leb (desk_count u.desk us) 32) us (λ u m. ap (λ (c : ℕ). leb c 32) (from_zero u.desk))
  where
    from_zero : (d : ℕ) → get_or (no_counts 8) d 0 + desk_count d us ≡ desk_count d us
    from_zero d = omega (arith, no_count 8 d)

pub walk_start : (n : ℕ) (ws : List ℕ) → n ≤ 8 → rest n (no_counts 8) 0 ws ≡ updates_admitted n ws
walk_start n ws h = whole n (no_counts 8) 0 ws h ∙ ap (λ (b : Bool). well_formed n 0 ws && b) (none_counted (updates_from 0 ws))

pub ruleset walking = (rest_update, rest_cell, rest_end, rest_counted, desk_below, walk_start)
