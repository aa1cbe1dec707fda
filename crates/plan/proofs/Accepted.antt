-- What an accepted plan gives, each question's yes, and what makes one: with open fields (questions 1 to 4), and with none (17 too).
-- Assumes nothing.
use mathlib.Core.Path.{◌≡◌, refl, ap}
use mathlib.Core.Bool.{true, false≢true}
use mathlib.Core.List.{List, [], ◌∷◌}
use Prim.Native.Nat.{ℕ, zero, suc, ◌≤◌}
use lib.Dec.{leb}
use lib.ListN.{length, drop}
use borrow.Author.Tests.{leb-true, eqb-true}
use Rattle.verdict.specs.Verdict.{accepted, ask}
use Rattle.verdict.proofs.Verdicts.{then_accepted, ask_accepted, ask_then_accepted}
use Rattle.std.specs.List.{list_all}
use Rattle.lists.proofs.Laws.{and_fst, and_snd}
use Rattle.word.specs.Field.{kind_of, head_desks, head_transactions, step_count}
use Rattle.plan.specs.Decode.{head_of, transactions_of, plan_of}
use Rattle.plan.specs.Admission.{has_head, counts_in_range, well_formed}
use Rattle.plan.specs.Admission.{parameters_exist, transactions_verdict, open_plan_verdict, decided, plan_verdict, longest_plan}
use Rattle.plan.proofs.FormedParts.{formed_parts}

pub record Accepted (ws : List ℕ) : Type 0 where
  -- 1
  pub words_low : 1 ≤ length ws
  pub words_high : length ws ≤ longest_plan
  pub head_kind : kind_of (head_of ws) ≡ 1
  -- 2
  pub desks_low : 1 ≤ head_desks (head_of ws)
  pub desks_high : head_desks (head_of ws) ≤ 8
  pub transactions_low : 1 ≤ head_transactions (head_of ws)
  pub transactions_high : head_transactions (head_of ws) ≤ 32
  -- 3
  pub form : well_formed (head_transactions (head_of ws)) (drop 1 ws) ≡ true
  -- 4
  pub names : list_all parameters_exist (transactions_of (head_transactions (head_of ws)) (drop 1 ws)) ≡ true

pub open_accepted_gives : (ws : List ℕ) → open_plan_verdict ws ≡ accepted → Accepted ws
unfolding open_plan_verdict transactions_verdict has_head counts_in_range
open_accepted_gives ws e =
    let q1 = ask_then_accepted 1 (has_head ws) _ e in
    let q2 = ask_then_accepted 2 (counts_in_range (head_of ws)) _ q1.1 in
    let q3 = ask_then_accepted 3 (well_formed (head_transactions (head_of ws)) (drop 1 ws)) _ q2.1 in
    let words = and_snd (leb 1 (length ws)) _ q1.0 in
    let desks = and_snd (leb 1 (head_desks (head_of ws))) _ q2.0 in
    let transactions = and_snd (leb (head_desks (head_of ws)) 8) _ desks in
    record {
      words_low = leb-true 1 (length ws) (and_fst _ _ q1.0);
      words_high = leb-true (length ws) longest_plan (and_fst _ _ words);
      head_kind = eqb-true (kind_of (head_of ws)) 1 (and_fst _ _ (and_snd (leb (length ws) longest_plan) _ words));
      desks_low = leb-true 1 (head_desks (head_of ws)) (and_fst _ _ q2.0);
      desks_high = leb-true (head_desks (head_of ws)) 8 (and_fst _ _ desks);
      transactions_low = leb-true 1 (head_transactions (head_of ws)) (and_fst _ _ transactions);
      transactions_high = leb-true (head_transactions (head_of ws)) 32 (and_snd (leb 1 (head_transactions (head_of ws))) _ transactions);
      form = q3.0;
      names = ask_accepted 4 (list_all parameters_exist (transactions_of (head_transactions (head_of ws)) (drop 1 ws))) q3.1;
    }

pub accepted_by : (ws : List ℕ) → has_head ws ≡ true → counts_in_range (head_of ws) ≡ true
    → well_formed (head_transactions (head_of ws)) (drop 1 ws) ≡ true
    → list_all parameters_exist (transactions_of (head_transactions (head_of ws)) (drop 1 ws)) ≡ true → open_plan_verdict ws ≡ accepted
unfolding open_plan_verdict transactions_verdict
accepted_by ws q1 q2 q3 q4 = rw (q1, q2, q3, q4)

-- ---- and no field is open

module _ (ws : List ℕ) where
  pub accepted_passes : plan_verdict ws ≡ accepted → open_plan_verdict ws ≡ accepted
  unfolding plan_verdict
  accepted_passes e = (then_accepted (open_plan_verdict ws) (ask 17 (list_all decided (plan_of ws).transactions)) e).0

  pub plan_decided : plan_verdict ws ≡ accepted → list_all decided (plan_of ws).transactions ≡ true
  unfolding plan_verdict
  plan_decided e =
      ask_accepted 17 (list_all decided (plan_of ws).transactions)
      (then_accepted (open_plan_verdict ws) (ask 17 (list_all decided (plan_of ws).transactions)) e).1

  pub plan_accepted : open_plan_verdict ws ≡ accepted → list_all decided (plan_of ws).transactions ≡ true → plan_verdict ws ≡ accepted
  unfolding plan_verdict
  plan_accepted e d = rw (e, d)

  pub accepted_gives : plan_verdict ws ≡ accepted → Accepted ws
  accepted_gives e = open_accepted_gives ws (accepted_passes e)

-- as many transactions decode as the words are well formed for
formed_count : (n : ℕ) (ws : List ℕ) → well_formed n ws ≡ true → length (transactions_of n ws) ≡ n
unfolding well_formed transactions_of
formed_count zero ws e = refl
formed_count (suc n) [] e = absurd (false≢true e)
formed_count (suc n) (w ∷ ws) e = ap suc (formed_count n (drop (step_count w) ws) (formed_parts n w ws e).rest)

open_transaction_count : (ws : List ℕ) → open_plan_verdict ws ≡ accepted
    → length (plan_of ws).transactions ≡ head_transactions (head_of ws)
unfolding plan_of
open_transaction_count ws e = formed_count (head_transactions (head_of ws)) (drop 1 ws) (open_accepted_gives ws e).form

pub transaction_count : (ws : List ℕ) → plan_verdict ws ≡ accepted → length (plan_of ws).transactions ≡ head_transactions (head_of ws)
transaction_count ws e = open_transaction_count ws (accepted_passes ws e)

pub desk_count_lem : (ws : List ℕ) → (plan_of ws).desks ≡ head_desks (head_of ws)
unfolding plan_of
desk_count_lem ws = refl

pub all_named : (ws : List ℕ) → plan_verdict ws ≡ accepted → list_all parameters_exist (plan_of ws).transactions ≡ true
unfolding plan_of
all_named ws e = (accepted_gives ws e).names
