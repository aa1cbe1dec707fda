-- The decoded plan, filled: the fields stand in place of the open ones, all else being as it was.
-- Assumes nothing.
use mathlib.Core.Path.{◌≡◌, refl, ◌∙◌, sym, ap, subst}
use mathlib.Core.Bool.{Bool, true, false, not, cond}
use mathlib.Core.List.{List, [], ◌∷◌}
use Prim.Native.Nat.{ℕ, zero, suc}
use native.Mathlib.Omega.{arith}
use lib.ListN.{get_or, drop}
use Rattle.word.specs.Field.{head_desks, head_transactions, step_count, partitioning_field}
use Rattle.plan.specs.Plan.{Transaction}
use Rattle.plan.specs.Decode.{is_open, part_by, transaction_of, transactions_of, plan_of}
use Rattle.plan.specs.Admission.{transaction_formed, well_formed}
use Rattle.plan.proofs.FormedParts.{formed_parts}
use Rattle.plan.proofs.OpenWords.{transaction_decided}
use Rattle.plan.proofs.Accepted.{open_accepted_gives}
use Rattle.partitioning.specs.Filling.{with_field, fill}
use Rattle.partitioning.specs.Choosing.{repartitioned, fill_transactions, FilledDecodes}
use Rattle.partitioning.proofs.Numbers.{CandidatesOf, candidate_small}
use Rattle.partitioning.proofs.Fields.{field_set}
use Rattle.partitioning.proofs.FillWords.{fields_behind, Candidates, candidate_here, fill_behind_head}
use Rattle.partitioning.proofs.OpenTransactions.{filling_fits}
use Rattle.partitioning.proofs.Filled.{filled_transaction, candidates_past, fill_transactions_lem}

-- the first transaction, by whether its word is open
first_filled : (w : ℕ) (ws fs : List ℕ) (ts : List Transaction) → transaction_formed w ≡ true → Candidates (w ∷ ws) fs
    → fill_transactions fs (transaction_of w ws ∷ ts) ≡ filled_transaction fs w ws ∷ fill_transactions (fields_behind fs w) ts
unfolding fill_transactions
first_filled w ws fs ts f c =
    ap (λ (b : Bool). cond b (transaction_of w ws ∷ fill_transactions fs ts)
    (repartitioned (part_by (get_or fs 0 0)) (transaction_of w ws) ∷ fill_transactions (drop 1 fs) ts)) (transaction_decided w f)
    ∙ go (is_open w) refl
  where
    go : (b : Bool) → is_open w ≡ b
        → cond (not b) (transaction_of w ws ∷ fill_transactions fs ts)
        (repartitioned (part_by (get_or fs 0 0)) (transaction_of w ws) ∷ fill_transactions (drop 1 fs) ts)
        ≡ repartitioned (part_by (partitioning_field (cond b (with_field (get_or fs 0 0) w) w))) (transaction_of w ws)
        ∷ fill_transactions (cond b (drop 1 fs) fs) ts
    go true e =
        ap (λ (q : ℕ). repartitioned (part_by q) (transaction_of w ws) ∷ fill_transactions (drop 1 fs) ts)
        (sym (field_set (get_or fs 0 0) w (candidate_small w (get_or fs 0 0) (candidate_here w ws fs c e))))
    go false e = refl

fills_transactions : (n : ℕ) (ws fs : List ℕ) → well_formed n ws ≡ true → Candidates ws fs
    → transactions_of n (fill fs ws) ≡ fill_transactions fs (transactions_of n ws)
unfolding well_formed fill transactions_of fill_transactions
fills_transactions zero ws fs e c = refl
fills_transactions (suc n) [] fs e c = refl
fills_transactions (suc n) (w ∷ ws) fs e c =
    fill_transactions_lem n w ws fs e c
    ∙ ap (λ (ts : List Transaction). filled_transaction fs w ws ∷ ts)
    (fills_transactions n (drop (step_count w) ws) (fields_behind fs w) (formed_parts n w ws e).rest (candidates_past n w ws fs e c))
    ∙ sym (first_filled w ws fs (transactions_of n (drop (step_count w) ws)) (formed_parts n w ws e).form c)

pub filled_decodes : FilledDecodes
unfolding plan_of
filled_decodes [] fs e g = absurd (omega (arith, (open_accepted_gives [] e).words_low))
filled_decodes (w ∷ ws) fs e g =
    let kept = fill_behind_head w ws fs e in
    let c : Candidates ws fs = subst (λ (os : List ℕ). CandidatesOf os fs) kept.1 (filling_fits (w ∷ ws) e fs g).1 in
    ap plan_of kept.0
    ∙ ap (λ (ts : List Transaction). record { desks = head_desks w; transactions = ts })
    (fills_transactions (head_transactions w) ws fs (open_accepted_gives (w ∷ ws) e).form c)
