-- The sets of rows while a plan is walked: which steps put a row into a set, and that the two walks, over the transactions that
-- are closed and over those that are open, leave just these rows in them.
-- Assumes nothing.
use mathlib.Core.Path.{◌≡◌, ◌∙◌, sym, ap, ap₂}
use mathlib.Core.Bool.{Bool, true, false, not, ◌&&◌, ◌||◌, cond, or-false, or_assoc}
use mathlib.Core.List.{List, [], ◌∷◌}
use Prim.Native.Nat.{ℕ, ◌/◌, ◌%◌, ◌<◌}
use native.Mathlib.Omega.{arith}
use lib.Bits.{bit_or}
use lib.Dec.{leb, eqb}
use lib.ListN.{length, get_or, set, replicate, length-set, length-replicate, get_or-replicate}
use lib.Seq.{get_or-set_same, get_or-set_other}
use borrow.Author.Tests.{eq-eqb, ne_eqb}
use Rattle.lists.proofs.Laws.{by_same}
use Rattle.word.specs.Field.{kind_of, partitioning_field}
use Rattle.plan.specs.Decode.{is_open, row_of}
use Rattle.conflict.specs.Mask.{mask_of}
use Rattle.conflict.specs.Written.{row_given}
use Rattle.conflict.proofs.Masks.{mask_ext, mask_none, mask_or}
use Rattle.partitioning.specs.Best.{candidate_count, candidate}
use Rattle.partitioning.specs.Touched.{rows_of, set_of, mark, is_transaction, mark_closed, mark_open}
use Rattle.partitioning.proofs.RowSets.{rows_mask_lem}

-- the step in word w, under partitioning q, puts row r into set k
unfoldable pub puts : ℕ → ℕ → ℕ → ℕ → Bool
puts k q w r = (leb (kind_of w) 4 && not (eqb q 14)) && (eqb (set_of q w) k && row_given (row_of w) r)

-- some step of a transaction that is not open does
unfoldable pub closed_puts : ℕ → ℕ → ℕ → List ℕ → Bool
closed_puts k r q [] = false
closed_puts k r q (w ∷ ws) = cond (is_transaction w) (closed_puts k r (partitioning_field w) ws) (puts k q w r || closed_puts k r q ws)

-- some step of an open one does, under filling number i of n
unfoldable pub open_puts : ℕ → ℕ → ℕ → ℕ → ℕ → List ℕ → Bool
open_puts k r q n i [] = false
open_puts k r q n i (w ∷ ws) =
    cond (is_open w)
    (open_puts k r (candidate w (i / (n / candidate_count w))) (n / candidate_count w) (i % (n / candidate_count w)) ws)
    (cond (is_transaction w) (open_puts k r 14 n i ws)
    (puts k q w r || open_puts k r q n i ws))

-- set k holds the rows that f k has
pub record Holds (t : List ℕ) (f : ℕ → ℕ → Bool) : Type 0 where
  pub long : length t ≡ 96
  pub sets : (k : ℕ) → k < 96 → get_or t k 0 ≡ mask_of 32 (f k)

pub holds_none : Holds (replicate 96 0) (λ k r. false)
holds_none = record {
  long = length-replicate {A = ℕ} 96 0;
  sets = λ k h. get_or-replicate {A = ℕ} 96 k 0 0 h ∙ sym (mask_none 32);
}

pub holds_same : (t : List ℕ) (f g : ℕ → ℕ → Bool) → ((k r : ℕ) → f k r ≡ g k r) → Holds t f → Holds t g
holds_same t f g e h = record { long = h.long; sets = λ k l. h.sets k l ∙ mask_ext 32 (f k) (g k) (e k) }

-- ---- one step

module _ (q w : ℕ) (t : List ℕ) (f : ℕ → ℕ → Bool) (h : Holds t f) where
  abbrev joined : ℕ
  joined = bit_or (get_or t (set_of q w) 0) (rows_of w)

  holds_mark : Holds (mark q w t) (λ k r. f k r || puts k q w r)
  unfolding mark puts
  holds_mark = go (leb (kind_of w) 4 && not (eqb q 14))
    where
      here : (k : ℕ) → k < 96 → set_of q w ≡ k → get_or (set t (set_of q w) joined) k 0
          ≡ mask_of 32 (λ r. f k r || (eqb (set_of q w) k && row_given (row_of w) r))
      here k l e =
          ap (λ (i : ℕ). get_or (set t i (bit_or (get_or t i 0) (rows_of w))) k 0) e
          ∙ get_or-set_same t k (bit_or (get_or t k 0) (rows_of w)) 0 (omega (arith, h.long))
          ∙ ap₂ bit_or (h.sets k l) (rows_mask_lem w) ∙ mask_or 32 (f k) (row_given (row_of w))
          ∙ mask_ext 32 _ _ (λ r. ap (λ (b : Bool). f k r || (b && row_given (row_of w) r)) (sym (eq-eqb (set_of q w) k e)))

      other : (k : ℕ) → k < 96 → (set_of q w ≡ k → ⊥) → get_or (set t (set_of q w) joined) k 0
          ≡ mask_of 32 (λ r. f k r || (eqb (set_of q w) k && row_given (row_of w) r))
      other k l e =
          get_or-set_other t (set_of q w) k joined 0 (λ s. e (sym s)) ∙ h.sets k l
          ∙ mask_ext 32 _ _ (λ r. sym (ap (λ (b : Bool). f k r || (b && row_given (row_of w) r)) (ne_eqb (set_of q w) k e) ∙ or-false
          (f k r)))

      go : (b : Bool) → Holds (cond b (set t (set_of q w) joined) t) (λ k r. f k r || (b && (eqb (set_of q w) k && row_given (row_of w) r)))
      go true = record {
        long = length-set t (set_of q w) joined ∙ h.long;
        sets = λ k l. by_same (set_of q w) k (here k l) (other k l);
      }
      go false = holds_same t f _ (λ k r. sym (or-false (f k r))) h

-- ---- along the words

pub holds_closed : (q : ℕ) (ws t : List ℕ) (f : ℕ → ℕ → Bool) → Holds t f → Holds (mark_closed q ws t)
    (λ k r. f k r || closed_puts k r q ws)
unfolding mark_closed closed_puts
holds_closed q [] t f h = holds_same t f _ (λ k r. sym (or-false (f k r))) h
holds_closed q (w ∷ ws) t f h =
    go (is_transaction w) (holds_closed (partitioning_field w) ws t f h)
    (holds_closed q ws (mark q w t) (λ k r. f k r || puts k q w r) (holds_mark q w t f h))
  where
    go : (b : Bool) → Holds (mark_closed (partitioning_field w) ws t) (λ k r. f k r || closed_puts k r (partitioning_field w) ws)
        → Holds (mark_closed q ws (mark q w t)) (λ k r. (f k r || puts k q w r) || closed_puts k r q ws)
        → Holds (cond b (mark_closed (partitioning_field w) ws t) (mark_closed q ws (mark q w t)))
        (λ k r. f k r || cond b (closed_puts k r (partitioning_field w) ws) (puts k q w r || closed_puts k r q ws))
    go true x y = x
    go false x y = holds_same _ _ _ (λ k r. or_assoc (f k r) (puts k q w r) (closed_puts k r q ws)) y

pub holds_open : (q n i : ℕ) (ws t : List ℕ) (f : ℕ → ℕ → Bool) → Holds t f
    → Holds (mark_open q n i ws t) (λ k r. f k r || open_puts k r q n i ws)
unfolding mark_open open_puts
holds_open q n i [] t f h = holds_same t f _ (λ k r. sym (or-false (f k r))) h
holds_open q n i (w ∷ ws) t f h =
    let m = n / candidate_count w in
    go (is_open w) (is_transaction w) (holds_open (candidate w (i / m)) m (i % m) ws t f h) (holds_open 14 n i ws t f h)
    (holds_open q n i ws (mark q w t) (λ k r. f k r || puts k q w r) (holds_mark q w t f h))
  where
    m : ℕ
    m = n / candidate_count w

    go : (a b : Bool)
        → Holds (mark_open (candidate w (i / m)) m (i % m) ws t) (λ k r. f k r || open_puts k r (candidate w (i / m)) m (i % m) ws)
        → Holds (mark_open 14 n i ws t) (λ k r. f k r || open_puts k r 14 n i ws)
        → Holds (mark_open q n i ws (mark q w t)) (λ k r. (f k r || puts k q w r) || open_puts k r q n i ws)
        → Holds
        (cond a (mark_open (candidate w (i / m)) m (i % m) ws t) (cond b (mark_open 14 n i ws t) (mark_open q n i ws (mark q w t))))
        (λ k r. f k r || cond a (open_puts k r (candidate w (i / m)) m (i % m) ws)
        (cond b (open_puts k r 14 n i ws) (puts k q w r || open_puts k r q n i ws)))
    go true b x y z = x
    go false true x y z = y
    go false false x y z = holds_same _ _ _ (λ k r. or_assoc (f k r) (puts k q w r) (open_puts k r q n i ws)) z
