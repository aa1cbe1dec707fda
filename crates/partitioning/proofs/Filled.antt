-- A plan with open fields, filled: the plan reader accepts it, and only the open fields differ.
-- Assumes nothing.
use mathlib.Core.Path.{◌≡◌, refl, ◌∙◌, sym, ap, subst}
use mathlib.Core.Bool.{true, false, false≢true}
use mathlib.Core.List.{List, [], ◌∷◌, map}
use Prim.Native.Nat.{ℕ, zero, suc, ◌/◌, ◌%◌, ◌^◌}
use native.Mathlib.Omega.{arith}
use lib.Dec.{leb}
use lib.ListN.{length, get_or, take, drop}
use Rattle.verdict.specs.Verdict.{accepted}
use Rattle.verdict.proofs.Verdicts.{ask_then_accepted}
use Rattle.std.specs.List.{list_all}
use Rattle.std.proofs.lemmas.Bool.{and_from}
use Rattle.lists.proofs.Laws.{and_fst, and_snd}
use Rattle.word.specs.Field.{head_transactions, parameter_count, step_count, partitioning_field}
use Rattle.plan.specs.Plan.{Transaction}
use Rattle.plan.specs.Decode.{is_open, step_of, part_by, transaction_of, transactions_of, plan_of, head_of}
use Rattle.plan.specs.Admission.{has_head, counts_in_range, step_formed, tell_count, most_tells, well_formed}
use Rattle.plan.specs.Admission.{part_exists, parameters_exist, open_plan_verdict, decided, plan_verdict}
use Rattle.plan.proofs.FormedParts.{FormedParts, formed_parts, parts_formed}
use Rattle.plan.proofs.Accepted.{open_accepted_gives, accepted_by, plan_accepted}
use Rattle.partitioning.specs.Filling.{Candidate, fill}
use Rattle.partitioning.specs.Choosing.{FilledAccepted, OtherBitsKept, repartitioned}
use Rattle.partitioning.proofs.Numbers.{CandidatesOf}
use Rattle.partitioning.proofs.Fields.{put_field, put_high, put_low, put_parameters, put_steps, put_weight, put_urgent}
use Rattle.partitioning.proofs.Fields.{put_formed, put_exists, put_decided}
use Rattle.partitioning.proofs.FillWords.{fields_behind, fill_cons, filled_length, fill_steps, fill_behind_head}
use Rattle.partitioning.proofs.FillWords.{Candidates, candidate_here, candidates_behind}
use Rattle.partitioning.proofs.OpenTransactions.{filling_fits}

-- ---- other bits

kept_at : (ws fs : List ℕ) → Candidates ws fs → (i : ℕ) → (is_open (get_or ws i 0) ≡ false → get_or (fill fs ws) i 0 ≡ get_or ws i 0)
    × (get_or (fill fs ws) i 0 / 2 ^ 20 ≡ get_or ws i 0 / 2 ^ 20)
    × (get_or (fill fs ws) i 0 % 2 ^ 16 ≡ get_or ws i 0 % 2 ^ 16)
unfolding fill
kept_at [] fs c i = ((λ e. refl), refl, refl)
kept_at (w ∷ ws) fs c zero =
    let here = candidate_here w ws fs c in
    rw (fill_cons fs w ws) ((λ (e : is_open w ≡ false). rw e), put_high (get_or fs 0 0) w here, put_low (get_or fs 0 0) w here)
kept_at (w ∷ ws) fs c (suc i) = rw (fill_cons fs w ws) (kept_at ws (fields_behind fs w) (candidates_behind w ws fs c) i)

pub other_bits_kept : OtherBitsKept
other_bits_kept ws fs e g = (filled_length fs ws, kept_at ws fs (filling_fits ws e fs g).1)

-- ---- transaction by transaction

-- the transaction whose word is w, as the filling leaves it
abbrev pub filled_transaction : List ℕ → ℕ → List ℕ → Transaction
filled_transaction fs w ws = repartitioned (part_by (partitioning_field (put_field (get_or fs 0 0) w))) (transaction_of w ws)

-- the first transaction of a well-formed list, and the fields from its own on
module _ (n w : ℕ) (ws fs : List ℕ) (e : well_formed (suc n) (w ∷ ws) ≡ true) (c : Candidates (w ∷ ws) fs) where
  here : is_open w ≡ true → Candidate (parameter_count w) (get_or fs 0 0)
  here = candidate_here w ws fs c

  parts : FormedParts n w ws
  parts = formed_parts n w ws e

  taken : take (step_count (put_field (get_or fs 0 0) w)) (fill (fields_behind fs w) ws) ≡ take (step_count w) ws
  taken =
      ap (λ (k : ℕ). take k (fill (fields_behind fs w) ws)) (put_steps (get_or fs 0 0) w here)
      ∙ (fill_steps (step_count w) ws (fields_behind fs w) parts.steps).0

  dropped : drop (step_count (put_field (get_or fs 0 0) w)) (fill (fields_behind fs w) ws) ≡ fill (fields_behind fs w) (drop
      (step_count w) ws)
  dropped =
      ap (λ (k : ℕ). drop k (fill (fields_behind fs w) ws)) (put_steps (get_or fs 0 0) w here)
      ∙ (fill_steps (step_count w) ws (fields_behind fs w) parts.steps).1

  -- the fields for the words behind its steps
  pub candidates_past : Candidates (drop (step_count w) ws) (fields_behind fs w)
  candidates_past =
      subst (λ (os : List ℕ). CandidatesOf os (fields_behind fs w))
      (sym (fill_steps (step_count w) ws (fields_behind fs w) parts.steps).2) (candidates_behind w ws fs c)

  first_formed : well_formed n (fill (fields_behind fs w) (drop (step_count w) ws)) ≡ true → well_formed (suc n) (fill fs (w ∷ ws)) ≡ true
  first_formed rest =
      ap (well_formed (suc n)) (fill_cons fs w ws)
      ∙ parts_formed n (put_field (get_or fs 0 0) w) (fill (fields_behind fs w) ws) (record {
        form = put_formed (get_or fs 0 0) w here parts.form;
        fits = rw (put_steps (get_or fs 0 0) w here, filled_length (fields_behind fs w) ws) parts.fits;
        steps = ap (list_all step_formed) taken ∙ parts.steps;
        tells_few = ap (λ (l : List ℕ). leb (tell_count (map step_of l)) most_tells) taken ∙ parts.tells_few;
        rest = ap (well_formed n) dropped ∙ rest;
      })

  -- the transactions are as they were, but for the partitioning
  pub fill_transactions_lem : transactions_of (suc n) (fill fs (w ∷ ws))
      ≡ filled_transaction fs w ws ∷ transactions_of n (fill (fields_behind fs w) (drop (step_count w) ws))
  unfolding transactions_of
  fill_transactions_lem =
      ap (transactions_of (suc n)) (fill_cons fs w ws)
      ∙ ap (λ (l : List ℕ). transaction_of (put_field (get_or fs 0 0) w) (fill (fields_behind fs w) ws) ∷ transactions_of n l) dropped
      ∙ ap (λ (t : Transaction). t ∷ transactions_of n (fill (fields_behind fs w) (drop (step_count w) ws)))
      (rw (put_parameters (get_or fs 0 0) w here, put_weight (get_or fs 0 0) w here, put_urgent (get_or fs 0 0) w here, taken))

  first_exists : parameters_exist (transaction_of w ws) ≡ true → parameters_exist (filled_transaction fs w ws) ≡ true
  unfolding parameters_exist
  first_exists q =
      and_from (part_exists (parameter_count w) (part_by (partitioning_field (put_field (get_or fs 0 0) w)))) _
      (put_exists (get_or fs 0 0) w here parts.form (and_fst (part_exists (parameter_count w) (part_by (partitioning_field w))) _ q))
      (and_snd (part_exists (parameter_count w) (part_by (partitioning_field w))) _ q)

  first_decided : decided (filled_transaction fs w ws) ≡ true
  first_decided = put_decided (get_or fs 0 0) w here parts.form

fill_well_formed : (n : ℕ) (ws fs : List ℕ) → well_formed n ws ≡ true → Candidates ws fs → well_formed n (fill fs ws) ≡ true
unfolding well_formed fill
fill_well_formed zero [] fs e c = refl
fill_well_formed zero (w ∷ ws) fs e c = absurd (false≢true e)
fill_well_formed (suc n) [] fs e c = e
fill_well_formed (suc n) (w ∷ ws) fs e c =
    first_formed n w ws fs e c
    (fill_well_formed n (drop (step_count w) ws) (fields_behind fs w) (formed_parts n w ws e).rest (candidates_past n w ws fs e c))

fill_exists : (n : ℕ) (ws fs : List ℕ) → well_formed n ws ≡ true → Candidates ws fs
    → list_all parameters_exist (transactions_of n ws) ≡ true → list_all parameters_exist (transactions_of n (fill fs ws)) ≡ true
unfolding well_formed fill transactions_of
fill_exists zero ws fs e c q = refl
fill_exists (suc n) [] fs e c q = refl
fill_exists (suc n) (w ∷ ws) fs e c q =
    ap (list_all parameters_exist) (fill_transactions_lem n w ws fs e c)
    ∙ and_from (parameters_exist (filled_transaction fs w ws)) _
    (first_exists n w ws fs e c (and_fst (parameters_exist (transaction_of w ws)) _ q))
    (fill_exists n (drop (step_count w) ws) (fields_behind fs w) (formed_parts n w ws e).rest (candidates_past n w ws fs e c)
    (and_snd (parameters_exist (transaction_of w ws)) _ q))

fill_decided : (n : ℕ) (ws fs : List ℕ) → well_formed n ws ≡ true → Candidates ws fs
    → list_all decided (transactions_of n (fill fs ws)) ≡ true
unfolding well_formed fill transactions_of
fill_decided zero ws fs e c = refl
fill_decided (suc n) [] fs e c = refl
fill_decided (suc n) (w ∷ ws) fs e c =
    ap (list_all decided) (fill_transactions_lem n w ws fs e c)
    ∙ and_from (decided (filled_transaction fs w ws)) _
    (first_decided n w ws fs e c)
    (fill_decided n (drop (step_count w) ws) (fields_behind fs w) (formed_parts n w ws e).rest (candidates_past n w ws fs e c))

-- ---- the plan

-- questions 1 and 2 ask the head and the length
asked_head : (ws : List ℕ) → open_plan_verdict ws ≡ accepted → (has_head ws ≡ true) × (counts_in_range (head_of ws) ≡ true)
unfolding open_plan_verdict
asked_head ws e =
    let q1 = ask_then_accepted 1 (has_head ws) _ e in
    (q1.0, (ask_then_accepted 2 (counts_in_range (head_of ws)) _ q1.1).0)

same_head : (w : ℕ) (ws vs : List ℕ) → length vs ≡ length ws → has_head (w ∷ vs) ≡ has_head (w ∷ ws)
unfolding has_head
same_head w ws vs l = rw l

pub filled_accepted : FilledAccepted
unfolding plan_of
filled_accepted [] fs e g = absurd (omega (arith, (open_accepted_gives [] e).words_low))
filled_accepted (w ∷ ws) fs e g =
    let a = open_accepted_gives (w ∷ ws) e in
    let kept = fill_behind_head w ws fs e in
    let c : Candidates ws fs = subst (λ (os : List ℕ). CandidatesOf os fs) kept.1 (filling_fits (w ∷ ws) e fs g).1 in
    let q = asked_head (w ∷ ws) e in
    ap plan_verdict kept.0
    ∙ plan_accepted (w ∷ fill fs ws)
    (accepted_by (w ∷ fill fs ws) (same_head w ws (fill fs ws) (filled_length fs ws) ∙ q.0) q.1
    (fill_well_formed (head_transactions w) ws fs a.form c) (fill_exists (head_transactions w) ws fs a.form c a.names))
    (fill_decided (head_transactions w) ws fs a.form c)
