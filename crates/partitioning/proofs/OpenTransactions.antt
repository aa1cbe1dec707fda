-- The open transactions of the decoded plan stand in the open words, so the fields that fit those words are the fillings of the plan.
-- Assumes nothing.
use mathlib.Core.Path.{◌≡◌, refl, ◌∙◌, sym, ap, subst}
use mathlib.Core.Bool.{Bool, true, false, not, cond, false≢true}
use mathlib.Core.List.{List, [], ◌∷◌, map}
use Prim.Native.Nat.{ℕ, zero, suc}
use native.Mathlib.Omega.{arith}
use lib.ListN.{length, get_or, drop, length-map, get_or-map}
use Rattle.verdict.specs.Verdict.{accepted}
use Rattle.word.specs.Field.{head_transactions, parameter_count, step_count}
use Rattle.plan.specs.Plan.{Transaction, no_transaction}
use Rattle.plan.specs.Decode.{is_open, transaction_of, transactions_of, plan_of}
use Rattle.plan.specs.Admission.{well_formed, decided, open_plan_verdict}
use Rattle.plan.proofs.FormedParts.{formed_parts}
use Rattle.plan.proofs.OpenWords.{transaction_decided}
use Rattle.plan.proofs.Accepted.{open_accepted_gives}
use Rattle.partitioning.specs.Filling.{open_transactions, Candidate, Filling}
use Rattle.partitioning.specs.Best.{open_words}
use Rattle.partitioning.proofs.Numbers.{Fits}
use Rattle.partitioning.proofs.FillWords.{fill_steps, fill_behind_head}

-- how many parameters a transaction has
abbrev params : Transaction → ℕ
params t = t.params

formed_params : (n : ℕ) (ws : List ℕ) → well_formed n ws ≡ true
    → map parameter_count (open_words ws) ≡ map params (open_transactions (transactions_of n ws))
unfolding well_formed transactions_of open_transactions
formed_params zero [] e = refl
formed_params zero (w ∷ ws) e = absurd (false≢true e)
formed_params (suc n) [] e = absurd (false≢true e)
formed_params (suc n) (w ∷ ws) e =
    let p = formed_parts n w ws e in
    go (is_open w) (transaction_decided w p.form)
    (ap (map parameter_count) (sym (fill_steps (step_count w) ws [] p.steps).2) ∙ formed_params n (drop (step_count w) ws) p.rest)
  where
    behind : List Transaction
    behind = open_transactions (transactions_of n (drop (step_count w) ws))

    go : (b : Bool) → decided (transaction_of w ws) ≡ not b → map parameter_count (open_words ws) ≡ map params behind
        → map parameter_count (cond b (w ∷ open_words ws) (open_words ws))
        ≡ map params (cond (decided (transaction_of w ws)) behind (transaction_of w ws ∷ behind))
    go true d h = rw d (ap (λ (l : List ℕ). parameter_count w ∷ l) h)
    go false d h = rw d h

plan_params : (ws : List ℕ) → open_plan_verdict ws ≡ accepted
    → map parameter_count (open_words ws) ≡ map params (open_transactions (plan_of ws).transactions)
unfolding plan_of
plan_params [] e = absurd (omega (arith, (open_accepted_gives [] e).words_low))
plan_params (w ∷ ws) e =
    ap (map parameter_count) (fill_behind_head w ws [] e).1
    ∙ formed_params (head_transactions w) ws (open_accepted_gives (w ∷ ws) e).form

module _ (ws : List ℕ) (e : open_plan_verdict ws ≡ accepted) where
  abbrev opens : List Transaction
  opens = open_transactions (plan_of ws).transactions

  pub open_counted : length (open_words ws) ≡ length opens
  open_counted = sym (length-map (open_words ws) parameter_count) ∙ ap length (plan_params ws e) ∙ length-map opens params

  params_at : (i : ℕ) → parameter_count (get_or (open_words ws) i 0) ≡ (get_or opens i no_transaction).params
  params_at i =
      sym (get_or-map parameter_count (open_words ws) i 0) ∙ ap (λ (l : List ℕ). get_or l i 0) (plan_params ws e)
      ∙ get_or-map params opens i no_transaction

  pub filling_fits : (fs : List ℕ) → Filling (plan_of ws) fs → Fits (open_words ws) fs
  filling_fits fs g = (
    g.long ∙ sym open_counted,
    λ i h. subst (λ (n : ℕ). Candidate n (get_or fs i 0)) (sym (params_at i)) (g.candidates i (omega (arith, h, g.long, open_counted))),
  )

  pub fits_filling : (fs : List ℕ) → Fits (open_words ws) fs → Filling (plan_of ws) fs
  fits_filling fs f = record {
    long = f.0 ∙ open_counted;
    candidates = λ i h. subst (λ (n : ℕ). Candidate n (get_or fs i 0)) (params_at i) (f.1 i (omega (arith, h, f.0)));
  }
