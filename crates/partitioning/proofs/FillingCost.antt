-- What the code computes for a filling is the cost of the plan that it leaves.
-- Assumes nothing.
use mathlib.Core.Path.{◌≡◌, refl, ◌∙◌, sym, ap, ap₂, subst}
use mathlib.Core.Bool.{Bool, true, false, ◌||◌, cond, false≢true}
use mathlib.Core.List.{List, [], ◌∷◌, map}
use Prim.Native.Nat.{ℕ, zero, suc, ◌+◌}
use native.Mathlib.Nat.{zero-add, add-zero}
use native.Mathlib.Omega.{arith}
use lib.ListN.{take, drop, replicate}
use borrow.Author.Tests.{eq-eqb}
use Rattle.verdict.specs.Verdict.{accepted}
use Rattle.std.specs.List.{list_all, list_any}
use Rattle.lists.proofs.Laws.{and_fst, and_snd}
use Rattle.word.specs.Field.{kind_of, step_count, weight_field, head_desks, head_transactions}
use Rattle.plan.specs.Plan.{Plan}
use Rattle.plan.specs.Decode.{step_of, head_of, transactions_of, plan_of}
use Rattle.plan.specs.Admission.{step_formed, well_formed, open_plan_verdict, decided, plan_verdict}
use Rattle.plan.proofs.Words.{transaction_kind}
use Rattle.plan.proofs.FormedParts.{formed_parts}
use Rattle.plan.proofs.Accepted.{Accepted, accepted_gives, plan_decided, desk_count_lem}
use Rattle.partitioning.specs.Cost.{writes_shared, global_weight}
use Rattle.partitioning.specs.Best.{open_words, filling_count, filling, filled_by, cost_by}
use Rattle.partitioning.specs.Touched.{mark_closed, mark_open}
use Rattle.partitioning.specs.Shared.{shared_rows, word_shares, cost_from}
use Rattle.partitioning.proofs.Numbers.{numbered_fits}
use Rattle.partitioning.proofs.FillWords.{fill_head}
use Rattle.partitioning.proofs.OpenTransactions.{fits_filling}
use Rattle.partitioning.proofs.Filled.{filled_accepted}
use Rattle.partitioning.proofs.RowsPut.{closed_puts, Holds, holds_none, holds_same, holds_closed, holds_open}
use Rattle.partitioning.proofs.FilledRows.{puts_open, joins_closed, filled_puts, filled_cost}
use Rattle.partitioning.proofs.TouchedRows.{step_no_transaction}
use Rattle.partitioning.proofs.SharedRows.{word_shares_lem}

-- ---- the walk for the cost, over a plan's words

module _ (s : List ℕ) where
  -- along steps: the weight at hand is counted once if one of them shares
  cost_steps : (m : ℕ) (ws : List ℕ) (g c : ℕ) → list_all step_formed (take m ws) ≡ true
      → cost_from s g c ws ≡ cond (list_any (word_shares s) (take m ws)) (cost_from s 0 (c + g) (drop m ws)) (cost_from s g c (drop m ws))
  unfolding cost_from
  cost_steps zero ws g c f = refl
  cost_steps (suc m) [] g c f = refl
  cost_steps (suc m) (w ∷ ws) g c f =
      rw (step_no_transaction w (and_fst (step_formed w) _ f))
      (go (word_shares s w) (list_any (word_shares s) (take m ws)) (cost_steps m ws 0 (c + g) rest) (cost_steps m ws g c rest))
    where
      rest : list_all step_formed (take m ws) ≡ true
      rest = and_snd (step_formed w) _ f

      go : (a b : Bool) → cost_from s 0 (c + g) ws ≡ cond b (cost_from s 0 (c + g + 0) (drop m ws)) (cost_from s 0 (c + g) (drop m ws))
          → cost_from s g c ws ≡ cond b (cost_from s 0 (c + g) (drop m ws)) (cost_from s g c (drop m ws))
          → cond a (cost_from s 0 (c + g) ws) (cost_from s g c ws)
          ≡ cond (a || b) (cost_from s 0 (c + g) (drop m ws)) (cost_from s g c (drop m ws))
      go true true x y = x ∙ ap (λ (k : ℕ). cost_from s 0 k (drop m ws)) (add-zero (c + g))
      go true false x y = x
      go false b x y = y

  -- before a transaction's word, or at the end, no weight is at hand
  cost_begins : (m : ℕ) (ws : List ℕ) (g c : ℕ) → well_formed m ws ≡ true → cost_from s g c ws ≡ cost_from s 0 c ws
  unfolding well_formed cost_from
  cost_begins zero [] g c f = refl
  cost_begins zero (w ∷ ws) g c f = absurd (false≢true f)
  cost_begins (suc m) [] g c f = absurd (false≢true f)
  cost_begins (suc m) (w ∷ ws) g c f = rw (eq-eqb (kind_of w) 2 (transaction_kind w (formed_parts m w ws f).form))

  module _ (p : Plan) (shares : (w : ℕ) → step_formed w ≡ true → word_shares s w ≡ writes_shared p (step_of w)) where
    some_shares : (ws : List ℕ) → list_all step_formed ws ≡ true → list_any (word_shares s) ws ≡ list_any (writes_shared p) (map step_of ws)
    some_shares [] f = refl
    some_shares (w ∷ ws) f =
        ap₂ ◌||◌ (shares w (and_fst (step_formed w) _ f)) (some_shares ws (and_snd (step_formed w) _ f))

    cost_transactions : (m : ℕ) (ws : List ℕ) (c : ℕ) → well_formed m ws ≡ true
        → cost_from s 0 c ws ≡ c + global_weight p (transactions_of m ws)
    unfolding well_formed transactions_of global_weight cost_from
    cost_transactions zero [] c f = sym (add-zero c)
    cost_transactions zero (w ∷ ws) c f = absurd (false≢true f)
    cost_transactions (suc m) [] c f = absurd (false≢true f)
    cost_transactions (suc m) (w ∷ ws) c f =
        let parts = formed_parts m w ws f in
        let l = drop (step_count w) ws in
        let g = weight_field w in
        rw (eq-eqb (kind_of w) 2 (transaction_kind w parts.form))
        (cost_steps (step_count w) ws g c parts.steps
        ∙ ap (λ (b : Bool). cond b (cost_from s 0 (c + g) l) (cost_from s g c l)) (some_shares (take (step_count w) ws) parts.steps)
        ∙ go (list_any (writes_shared p) (map step_of (take (step_count w) ws))) (cost_transactions m l (c + g) parts.rest)
        (cost_begins m l g c parts.rest ∙ cost_transactions m l c parts.rest))
      where
        go : (b : Bool) → cost_from s 0 (c + weight_field w) (drop (step_count w) ws)
            ≡ c + weight_field w + global_weight p (transactions_of m (drop (step_count w) ws))
            → cost_from s (weight_field w) c (drop (step_count w) ws) ≡ c + global_weight p (transactions_of m (drop (step_count w) ws))
            → cond b (cost_from s 0 (c + weight_field w) (drop (step_count w) ws)) (cost_from s (weight_field w) c (drop (step_count w) ws))
            ≡ c + (cond b (weight_field w) 0 + global_weight p (transactions_of m (drop (step_count w) ws)))
        go true x y = x ∙ omega arith
        go false x y = y ∙ omega arith

-- ---- a head, which is neither a transaction's word nor a step's

head_cost : (s : List ℕ) (h : ℕ) (ws : List ℕ) (c : ℕ) → kind_of h ≡ 1 → cost_from s 0 c (h ∷ ws) ≡ cost_from s 0 c ws
unfolding cost_from
head_cost s h ws c e = rw e

head_puts : (k r h : ℕ) (ws : List ℕ) → kind_of h ≡ 1 → closed_puts k r 14 (h ∷ ws) ≡ closed_puts k r 14 ws
unfolding closed_puts
head_puts k r h ws e = rw (e, puts_open k h r)

-- of words that begin with a head
behind_head : (P : List ℕ → List ℕ → Type 0) (ws : List ℕ) → Accepted ws → ((h : ℕ) (l : List ℕ) → kind_of h ≡ 1 → P (h ∷ l) l)
    → P ws (drop 1 ws)
behind_head P [] a f = absurd (omega (arith, a.words_low))
behind_head P (h ∷ l) a f = f h l a.head_kind

-- ---- the cost of a filling

module _ (ws : List ℕ) (i : ℕ) (e : open_plan_verdict ws ≡ accepted) where
  abbrev filled : List ℕ
  filled = filled_by ws i

  filled_plan : plan_verdict filled ≡ accepted
  filled_plan =
      filled_accepted ws (filling (open_words ws) i) e (fits_filling ws e (filling (open_words ws) i) (numbered_fits (open_words ws) i))

  gives : Accepted filled
  gives = accepted_gives filled filled_plan

  abbrev transactions : ℕ
  transactions = head_transactions (head_of filled)

  -- the sets of the code hold the rows that the filled plan's steps put into them
  abbrev touched : List ℕ
  touched = mark_open 14 (filling_count (open_words ws)) i ws (mark_closed 14 ws (replicate 96 0))

  holds_filled : Holds touched (λ k r. closed_puts k r 14 (drop 1 filled))
  holds_filled =
      holds_same touched _ _
      (λ k r. sym (filled_puts k r ws i 14 14 14 (joins_closed k r 14))
      ∙ behind_head (λ l b. closed_puts k r 14 l ≡ closed_puts k r 14 b) filled gives (λ h l. head_puts k r h l))
      (holds_open 14 (filling_count (open_words ws)) i ws (mark_closed 14 ws (replicate 96 0)) _
      (holds_closed 14 ws (replicate 96 0) (λ k r. false) holds_none))

  filled_transactions : (plan_of filled).transactions ≡ transactions_of transactions (drop 1 filled)
  unfolding plan_of
  filled_transactions = refl

  shares : (w : ℕ) → step_formed w ≡ true
      → word_shares (shared_rows (head_desks (head_of ws)) touched) w ≡ writes_shared (plan_of filled) (step_of w)
  shares w f =
      ap (λ (h : ℕ). word_shares (shared_rows (head_desks h) touched) w) (sym (fill_head ws (filling (open_words ws) i) e))
      ∙ ap (λ (n : ℕ). word_shares (shared_rows n touched) w) (sym (desk_count_lem filled))
      ∙ word_shares_lem (plan_of filled) (drop 1 filled) transactions 14 (omega (arith, desk_count_lem filled, gives.desks_high))
      (omega (arith, desk_count_lem filled, gives.desks_low)) filled_transactions gives.form
      (subst (λ ts. list_all decided ts ≡ true) filled_transactions (plan_decided filled filled_plan)) touched holds_filled w f

  pub filling_cost : cost_from (shared_rows (head_desks (head_of ws)) touched) 0 0 ws ≡ cost_by ws i
  unfolding cost_by plan_of
  filling_cost =
      let s = shared_rows (head_desks (head_of ws)) touched in
      sym (filled_cost s ws i 0 0)
      ∙ behind_head (λ l b. cost_from s 0 0 l ≡ cost_from s 0 0 b) filled gives (λ h l. head_cost s h l 0)
      ∙ cost_transactions s (plan_of filled) shares transactions (drop 1 filled) 0 gives.form
      ∙ zero-add (global_weight (plan_of filled) (transactions_of transactions (drop 1 filled)))

-- by what each call of the code gives
pub filling_cost_by : (ws : List ℕ) (i n r : ℕ) (closed t s : List ℕ) → open_plan_verdict ws ≡ accepted
    → closed ≡ mark_closed 14 ws (replicate 96 0) → n ≡ filling_count (open_words ws) → t ≡ mark_open 14 n i ws closed
    → s ≡ shared_rows (head_desks (head_of ws)) t → r ≡ cost_from s 0 0 ws → r ≡ cost_by ws i
filling_cost_by ws i n r closed t s e a b c d f =
    f ∙ ap (λ (l : List ℕ). cost_from l 0 0 ws)
    (d ∙ ap (shared_rows (head_desks (head_of ws))) (c ∙ ap₂ (λ (m : ℕ) (l : List ℕ). mark_open 14 m i ws l) b a))
    ∙ filling_cost ws i e
