-- The steps of the filled plan put just those rows into the sets that the steps of the closed transactions and of the open ones under the
-- filling do; and the filling changes no weight.
-- Assumes nothing.
use mathlib.Core.Path.{◌≡◌, refl, ◌∙◌, sym, ap, ap₂}
use mathlib.Core.Bool.{Bool, true, false, ◌&&◌, ◌||◌, cond, or-false}
use mathlib.Core.List.{List, [], ◌∷◌}
use Prim.Native.Nat.{ℕ, ◌+◌, ◌*◌, ◌/◌, ◌%◌}
use native.Mathlib.Nat.{mul-div_right}
use native.Mathlib.Omega.{arith}
use lib.Dec.{leb, eqb}
use lib.ListN.{get_or, drop}
use Rattle.lists.proofs.Laws.{or_interchange}
use Rattle.word.specs.Field.{kind_of, partitioning_field, weight_field}
use Rattle.plan.specs.Decode.{is_open, row_of}
use Rattle.plan.proofs.OpenWords.{open_kind, open_field_lem}
use Rattle.conflict.specs.Written.{row_given}
use Rattle.partitioning.specs.Filling.{with_field, fill}
use Rattle.partitioning.specs.Best.{open_words, candidate_count, candidate, filling_count, filling}
use Rattle.partitioning.specs.Touched.{set_of, is_transaction}
use Rattle.partitioning.specs.Shared.{word_shares, cost_from}
use Rattle.partitioning.proofs.Numbers.{candidate_low}
use Rattle.partitioning.proofs.Fields.{field_set, kind_kept, weight_kept}
use Rattle.partitioning.proofs.RowsPut.{puts, closed_puts, open_puts}

pub puts_open : (k w r : ℕ) → puts k 14 w r ≡ false
unfolding puts
puts_open k w r = go (leb (kind_of w) 4)
  where
    go : (b : Bool) → ((b && false) && (eqb (set_of 14 w) k && row_given (row_of w) r)) ≡ false
    go true = refl
    go false = refl

module _ (k r : ℕ) where
  -- under partitioning q the steps put what they put under q₁ or q₂
  abbrev Joins : ℕ → ℕ → ℕ → Type 0
  Joins q q₁ q₂ = (w : ℕ) → puts k q w r ≡ (puts k q₁ w r || puts k q₂ w r)

  pub joins_closed : (q : ℕ) → Joins q q 14
  joins_closed q w = sym (ap (λ (b : Bool). puts k q w r || b) (puts_open k w r) ∙ or-false (puts k q w r))

  joins_open : (q : ℕ) → Joins q 14 q
  joins_open q w = sym (ap (λ (b : Bool). b || puts k q w r) (puts_open k w r))

  pub filled_puts : (ws : List ℕ) (i q q₁ q₂ : ℕ) → Joins q q₁ q₂
      → closed_puts k r q (fill (filling (open_words ws) i) ws)
      ≡ (closed_puts k r q₁ ws || open_puts k r q₂ (filling_count (open_words ws)) i ws)
  unfolding fill filling filling_count closed_puts open_puts
  filled_puts [] i q q₁ q₂ j = refl
  filled_puts (w ∷ ws) i q q₁ q₂ j = go (is_open w) (is_transaction w) refl refl (filled_puts ws)
    where
      n : ℕ
      n = filling_count (open_words ws)

      c : ℕ → ℕ
      c m = candidate w (i / m)

      Law : Type 0
      Law = (i q q₁ q₂ : ℕ) → Joins q q₁ q₂
          → closed_puts k r q (fill (filling (open_words ws) i) ws) ≡ (closed_puts k r q₁ ws || open_puts k r q₂ n i ws)

      -- at an open word
      opened : is_open w ≡ true → Law
          → closed_puts k r q (with_field (c n) w ∷ fill (filling (open_words ws) (i % n)) ws)
          ≡ (closed_puts k r q₁ (w ∷ ws) || open_puts k r q₂ (candidate_count w * n) i (w ∷ ws))
      opened e law =
          let small = candidate_low w (i / n) in
          let m : candidate_count w * n / candidate_count w ≡ n = mul-div_right n (omega arith) in
          rw (kind_kept (c n) w small, open_kind w e, field_set (c n) w small, open_field_lem w e, m)
          (law (i % n) (c n) 14 (c n) (joins_open (c n)))

      go : (a b : Bool) → is_open w ≡ a → is_transaction w ≡ b → Law
          → closed_puts k r q
          (cond a (with_field (get_or (filling (cond a (w ∷ open_words ws) (open_words ws)) i) 0 0) w
          ∷ fill (drop 1 (filling (cond a (w ∷ open_words ws) (open_words ws)) i)) ws)
          (w ∷ fill (filling (cond a (w ∷ open_words ws) (open_words ws)) i) ws))
          ≡ (closed_puts k r q₁ (w ∷ ws) || open_puts k r q₂ (filling_count (cond a (w ∷ open_words ws) (open_words ws))) i (w ∷ ws))
      go true b e f law = opened e law
      go false true e f law = rw (e, f) (law i (partitioning_field w) (partitioning_field w) 14 (joins_closed (partitioning_field w)))
      go false false e f law =
          rw f (ap₂ ◌||◌ (j w) (law i q q₁ q₂ j)
          ∙ or_interchange (puts k q₁ w r) (puts k q₂ w r) (closed_puts k r q₁ ws) (open_puts k r q₂ n i ws))

-- the walk for the cost meets the same weights and steps
pub filled_cost : (s ws : List ℕ) (i g c : ℕ) → cost_from s g c (fill (filling (open_words ws) i) ws) ≡ cost_from s g c ws
unfolding fill filling cost_from
filled_cost s [] i g c = refl
filled_cost s (w ∷ ws) i g c = go (is_open w) (is_transaction w) (word_shares s w) refl refl refl (filled_cost s ws)
  where
    n : ℕ
    n = filling_count (open_words ws)

    Law : Type 0
    Law = (i g c : ℕ) → cost_from s g c (fill (filling (open_words ws) i) ws) ≡ cost_from s g c ws

    opened : is_open w ≡ true → Law
        → cost_from s g c (with_field (candidate w (i / n)) w ∷ fill (filling (open_words ws) (i % n)) ws) ≡ cost_from s g c (w ∷ ws)
    opened e law =
        let f = candidate w (i / n) in
        let small = candidate_low w (i / n) in
        rw (kind_kept f w small, open_kind w e, weight_kept f w small) (law (i % n) (weight_field w) c)

    go : (a b d : Bool) → is_open w ≡ a → is_transaction w ≡ b → word_shares s w ≡ d → Law
        → cost_from s g c
        (cond a (with_field (get_or (filling (cond a (w ∷ open_words ws) (open_words ws)) i) 0 0) w
        ∷ fill (drop 1 (filling (cond a (w ∷ open_words ws) (open_words ws)) i)) ws)
        (w ∷ fill (filling (cond a (w ∷ open_words ws) (open_words ws)) i) ws))
        ≡ cost_from s g c (w ∷ ws)
    go true b d e f h law = opened e law
    go false true d e f h law = rw f (law i (weight_field w) c)
    go false false true e f h law = rw (f, h) (law i 0 (c + g))
    go false false false e f h law = rw (f, h) (law i g c)
