-- Transaction k of an accepted plan stands whole at its place, and decodes to entry k.
-- Assumes nothing.
use mathlib.Core.Path.{◌≡◌, ◌∙◌, sym, ap, refl}
use mathlib.Core.Bool.{true, false≢true}
use mathlib.Core.List.{List, [], ◌∷◌}
use Prim.Native.Nat.{ℕ, zero, suc, ◌+◌, ◌-◌, ◌≤◌, ◌<◌}
use native.Mathlib.Nat.{sub-zero, add-zero}
use native.Mathlib.Numerals.{add-one}
use native.Mathlib.Omega.{arith}
use mathlib.Core.Logic.{⊎_elim}
use lib.ListN.{length, get_or, drop, length-drop, drop_of_length-le}
use lib.Seq.{drop-drop, get_or-drop, drop-cons}
use borrow.Author.Tests.{leb-true}
use Rattle.verdict.specs.Verdict.{accepted}
use Rattle.lists.proofs.Laws.{left_suc, drop_cases}
use Rattle.word.specs.Field.{step_count, head_transactions}
use Rattle.plan.specs.Plan.{Transaction, no_transaction, transaction_at}
use Rattle.plan.specs.Decode.{transactions_of, plan_of, head_of}
use Rattle.plan.specs.Admission.{well_formed, tell_count, most_tells, plan_verdict}
use Rattle.plan.specs.Place.{transaction_place, transaction_places, transaction_from, StandsAt}
use Rattle.plan.proofs.FormedParts.{FormedParts, formed_parts}
use Rattle.plan.proofs.Accepted.{accepted_gives, transaction_count}
use Rattle.plan.proofs.Placing.{place_found}

pub place_next : (ws : List ℕ) (k : ℕ) → transaction_place ws (k + 1)
    ≡ transaction_place ws k + 1 + step_count (get_or ws (transaction_place ws k) 0)
unfolding transaction_place
place_next ws k = rw add-one

-- past k transactions the walk is at `at`
record Past (ws : List ℕ) (txs k at : ℕ) : Type 0 where
  pub rest : drop k (transactions_of txs (drop 1 ws)) ≡ transactions_of (txs - k) (drop at ws)
  pub form : well_formed (txs - k) (drop at ws) ≡ true

past_none : (ws : List ℕ) → plan_verdict ws ≡ accepted → Past ws (head_transactions (head_of ws)) 0 1
past_none ws e = record { rest = rw sub-zero; form = rw sub-zero (accepted_gives ws e).form }

module _ (ws : List ℕ) (txs k at : ℕ) (h : k < txs) (p : Past ws txs k at) where
  word_here : (at < length ws) × (drop at ws ≡ get_or ws at 0 ∷ drop (at + 1) ws)
  unfolding well_formed
  word_here =
      ⊎_elim (λ (e : drop at ws ≡ []). absurd (false≢true (rw (left_suc txs k h, e) at p.form))) (λ g. g) (drop_cases ws at 0)

  form_here : well_formed (suc (txs - (k + 1))) (get_or ws at 0 ∷ drop (at + 1) ws) ≡ true
  form_here = rw (left_suc txs k h, word_here.1) at p.form

  rest_here : drop k (transactions_of txs (drop 1 ws))
      ≡ transaction_from ws at ∷ transactions_of (txs - (k + 1)) (drop (step_count (get_or ws at 0)) (drop (at + 1) ws))
  unfolding transactions_of
  rest_here = p.rest ∙ rw (left_suc txs k h, word_here.1)

  parts_here : FormedParts (txs - (k + 1)) (get_or ws at 0) (drop (at + 1) ws)
  parts_here = formed_parts (txs - (k + 1)) (get_or ws at 0) (drop (at + 1) ws) form_here

  stands_here : StandsAt ws at
  stands_here =
      let l = leb-true (step_count (get_or ws at 0)) (length (drop (at + 1) ws)) parts_here.fits in
      record {
        room = omega (arith, l, length-drop (at + 1) ws, word_here.0);
        form = parts_here.form;
        steps = parts_here.steps;
        tells_few = leb-true (tell_count (transaction_from ws at).steps) most_tells parts_here.tells_few;
      }

  past_more : Past ws txs (suc k) (at + 1 + step_count (get_or ws at 0))
  past_more = record {
    rest = ap (λ (i : ℕ). drop i (transactions_of txs (drop 1 ws))) (sym (add-one k))
        ∙ sym (drop-drop 1 k (transactions_of txs (drop 1 ws))) ∙ ap (drop 1) rest_here
        ∙ ap (transactions_of (txs - (k + 1))) (drop-drop (step_count (get_or ws at 0)) (at + 1) ws)
        ∙ ap (λ (i : ℕ). transactions_of (txs - i) (drop (at + 1 + step_count (get_or ws at 0)) ws)) (add-one k);
    form = ap (λ (i : ℕ). well_formed (txs - i) (drop (at + 1 + step_count (get_or ws at 0)) ws)) (sym (add-one k))
        ∙ ap (well_formed (txs - (k + 1))) (sym (drop-drop (step_count (get_or ws at 0)) (at + 1) ws))
        ∙ parts_here.rest;
  }

past_at : (ws : List ℕ) → plan_verdict ws ≡ accepted → (k : ℕ) → k ≤ head_transactions (head_of ws)
    → Past ws (head_transactions (head_of ws)) k (transaction_place ws k)
unfolding transaction_place
past_at ws e zero h = past_none ws e
past_at ws e (suc k) h =
    past_more ws (head_transactions (head_of ws)) k (transaction_place ws k) h (past_at ws e k (omega arith))

module _ (ws : List ℕ) (e : plan_verdict ws ≡ accepted) (k : ℕ) (h : k < head_transactions (head_of ws)) where
  pub stands_at_lem : StandsAt ws (transaction_place ws k)
  stands_at_lem = stands_here ws (head_transactions (head_of ws)) k (transaction_place ws k) h (past_at ws e k (omega arith))

  pub transaction_is : transaction_at (plan_of ws) k ≡ transaction_from ws (transaction_place ws k)
  unfolding plan_of
  transaction_is =
      ap (λ (i : ℕ). get_or (plan_of ws).transactions i no_transaction) (sym (add-zero k))
      ∙ sym (get_or-drop k (plan_of ws).transactions 0 no_transaction)
      ∙ ap (λ (l : List Transaction). get_or l 0 no_transaction)
      (rest_here ws (head_transactions (head_of ws)) k (transaction_place ws k) h (past_at ws e k (omega arith)))

-- the transactions from k on
pub transactions_from : List ℕ → ℕ → List Transaction
transactions_from ws k = drop k (plan_of ws).transactions

pub transactions_all : (ws : List ℕ) → transactions_from ws 0 ≡ (plan_of ws).transactions
unfolding transactions_from
transactions_all ws = refl

module _ (ws : List ℕ) (e : plan_verdict ws ≡ accepted) (k : ℕ) where
  pub transactions_cons : k < head_transactions (head_of ws)
      → transactions_from ws k ≡ transaction_from ws (transaction_place ws k) ∷ transactions_from ws (k + 1)
  unfolding transactions_from
  transactions_cons h =
      let l : k < length (plan_of ws).transactions = omega (arith, transaction_count ws e) in
      rw (add-one k, drop-cons (plan_of ws).transactions k no_transaction l, transaction_is ws e k h)

  pub transactions_none : head_transactions (head_of ws) ≤ k → transactions_from ws k ≡ []
  unfolding transactions_from
  transactions_none h = drop_of_length-le (plan_of ws).transactions {i = k} (omega (arith, transaction_count ws e))

-- the transaction with a number, at its place in the table
module _ (ws places : List ℕ) (e : plan_verdict ws ≡ accepted) (t : places ≡ transaction_places ws) (k : ℕ)
    (h : k < head_transactions (head_of ws)) where
  looked_up : get_or places k 0 ≡ transaction_place ws k
  looked_up = place_found ws places t k h (omega (arith, (accepted_gives ws e).transactions_high))

  pub stands_looked_up : StandsAt ws (get_or places k 0)
  stands_looked_up = rw looked_up (stands_at_lem ws e k h)

  pub transaction_looked_up : transaction_from ws (get_or places k 0) ≡ transaction_at (plan_of ws) k
  transaction_looked_up = ap (transaction_from ws) looked_up ∙ sym (transaction_is ws e k h)
