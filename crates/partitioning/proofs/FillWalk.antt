-- The open fields of a plan, filled one after the other where they stand.
-- Assumes nothing.
use mathlib.Core.Path.{◌≡◌, ◌∙◌, sym, ap, ap₂}
use mathlib.Core.Bool.{true, false}
use mathlib.Core.List.{List, [], ◌∷◌, ◌++◌, append_assoc, append-nil}
use Prim.Native.Nat.{ℕ, ◌+◌, ◌/◌, ◌%◌, ◌≤◌, ◌<◌}
use native.Mathlib.Numerals.{add-one}
use native.Mathlib.Nat.{mul-div_right}
use native.Mathlib.Omega.{arith}
use lib.ListN.{length, get_or, set, take, drop, length-set, drop_of_length-le}
use lib.Seq.{take-suc, take-suc-set, drop-set-lt, take_all}
use Rattle.std.proofs.lemmas.List.{drop_more}
use Rattle.plan.specs.Decode.{is_open}
use Rattle.partitioning.specs.Filling.{fill, with_field}
use Rattle.partitioning.specs.Best.{open_words, candidate, candidate_count, filling_count, filling, filled_by}
use Rattle.partitioning.proofs.Counts.{count_pos}

-- ---- one word

module _ (w : ℕ) (ws : List ℕ) (r : ℕ) where
  fill_open : is_open w ≡ true → (n : ℕ) → n ≡ filling_count (open_words ws)
      → filled_by (w ∷ ws) r ≡ with_field (candidate w (r / n)) w ∷ filled_by ws (r % n)
  unfolding filling fill
  fill_open e n f = rw (e, f)

  fill_not : is_open w ≡ false → filled_by (w ∷ ws) r ≡ w ∷ filled_by ws r
  unfolding filling fill
  fill_not e = rw e

-- ---- by the place in the plan

module _ (ws : List ℕ) (i : ℕ) where
  -- how many fillings the words from this place on have
  abbrev pub fillings_from : ℕ
  fillings_from = filling_count (open_words (drop i ws))

-- what is left of so many fillings behind an open word
pub fillings_behind : (ws : List ℕ) (i n : ℕ) → i < length ws → is_open (get_or ws i 0) ≡ true → n ≡ fillings_from ws i
    → n / candidate_count (get_or ws i 0) ≡ fillings_from ws (i + 1)
unfolding filling_count
fillings_behind ws i n h e f =
    ap (λ (m : ℕ). m / candidate_count (get_or ws i 0)) (f ∙ ap (λ (l : List ℕ). filling_count (open_words l)) (drop_more ws i 0 h) ∙ rw e)
    ∙ mul-div_right (fillings_from ws (i + 1)) (omega arith)

pub some_behind : (ws : List ℕ) (i n : ℕ) → i < length ws → is_open (get_or ws i 0) ≡ true → n ≡ fillings_from ws i
    → 1 ≤ n / candidate_count (get_or ws i 0)
some_behind ws i n h e f = rw (fillings_behind ws i n h e f) (count_pos (open_words (drop (i + 1) ws)))

pub fillings_past : (ws : List ℕ) (i : ℕ) → i < length ws → is_open (get_or ws i 0) ≡ false → fillings_from ws i ≡ fillings_from ws (i + 1)
fillings_past ws i h e = ap (λ (l : List ℕ). filling_count (open_words l)) (drop_more ws i 0 h) ∙ rw e

pub ruleset walk_fillings = (some_behind, fillings_behind, fillings_past)

-- of m words, those before place i are filled, and by number r of n those still to come, which makes `whole` of them
pub record FilledTo (m : ℕ) (whole ws : List ℕ) (i n r : ℕ) : Type 0 where
  pub long : length ws ≡ m
  pub left : n ≡ fillings_from ws i
  pub filled : take i ws ++ filled_by (drop i ws) r ≡ whole

module _ (m : ℕ) (whole ws : List ℕ) (i n r : ℕ) (p : FilledTo m whole ws i n r) where
  pub filled_open : (vs : List ℕ) (x k s : ℕ) → i < length ws → is_open (get_or ws i 0) ≡ true → k ≡ n / candidate_count (get_or ws i 0)
      → x ≡ with_field (candidate (get_or ws i 0) (r / k)) (get_or ws i 0) → vs ≡ set ws i x → s ≡ r % k → FilledTo m whole vs (i + 1) k s
  filled_open vs x k s h e a b c d =
      let behind : k ≡ fillings_from ws (i + 1) = a ∙ fillings_behind ws i n h e p.left in
      let same : drop (i + 1) vs ≡ drop (i + 1) ws = ap (drop (i + 1)) c ∙ drop-set-lt (i + 1) ws i x (omega arith) in
      record {
        long = ap length c ∙ length-set ws i x ∙ p.long;
        left = behind ∙ ap (λ (l : List ℕ). filling_count (open_words l)) (sym same);
        filled =
            ap₂ (λ (l f : List ℕ). l ++ f) (ap (take (i + 1)) c ∙ ap (λ (j : ℕ). take j (set ws i x)) (add-one i) ∙ take-suc-set ws i x h)
            (ap₂ filled_by same d)
            ∙ append_assoc (take i ws) (x ∷ []) (filled_by (drop (i + 1) ws) (r % k))
            ∙ ap (λ (y : ℕ). take i ws ++ (y ∷ filled_by (drop (i + 1) ws) (r % k))) b
            ∙ ap (λ (l : List ℕ). take i ws ++ l) (sym (fill_open (get_or ws i 0) (drop (i + 1) ws) r e k behind))
            ∙ ap (λ (l : List ℕ). take i ws ++ filled_by l r) (sym (drop_more ws i 0 h))
            ∙ p.filled;
      }

  pub filled_not : i < length ws → is_open (get_or ws i 0) ≡ false → FilledTo m whole ws (i + 1) n r
  filled_not h e = record {
    long = p.long;
    left = p.left ∙ fillings_past ws i h e;
    filled =
        ap (λ (l : List ℕ). l ++ filled_by (drop (i + 1) ws) r) (ap (λ (j : ℕ). take j ws) (add-one i) ∙ take-suc ws i 0 h)
        ∙ append_assoc (take i ws) (get_or ws i 0 ∷ []) (filled_by (drop (i + 1) ws) r)
        ∙ ap (λ (l : List ℕ). take i ws ++ l) (sym (fill_not (get_or ws i 0) (drop (i + 1) ws) r e))
        ∙ ap (λ (l : List ℕ). take i ws ++ filled_by l r) (sym (drop_more ws i 0 h))
        ∙ p.filled;
  }

  pub filled_done : length ws ≤ i → ws ≡ whole
  unfolding fill
  filled_done h =
      sym (ap (λ (l : List ℕ). take i ws ++ filled_by l r) (drop_of_length-le ws h) ∙ append-nil (take i ws) ∙ take_all i ws h) ∙ p.filled
