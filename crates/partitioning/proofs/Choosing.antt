-- The best filling: it is one, none costs less, none that costs the same is smaller, and it is the only such one. And the chooser's answer.
-- Assumes nothing.
use mathlib.Core.Path.{◌≡◌, refl, ◌∙◌, sym, ap}
use mathlib.Core.Bool.{true}
use mathlib.Core.List.{List, [], ◌∷◌}
use Prim.Native.Nat.{ℕ}
use native.Mathlib.Omega.{arith}
use lib.ListN.{length}
use borrow.Author.Tests.{le-leb, lt-leb, not-true}
use Rattle.verdict.specs.Verdict.{Verdict, accepted, refused, if_accepted}
use Rattle.verdict.proofs.Verdicts.{then_accepted}
use Rattle.std.specs.List.{list_all, list_any}
use Rattle.lists.proofs.Laws.{and_fst, and_snd}
use Rattle.plan.specs.Plan.{Transaction}
use Rattle.plan.specs.Decode.{is_open, plan_of}
use Rattle.plan.specs.Admission.{open_plan_verdict, decided, plan_verdict}
use Rattle.plan.proofs.OpenWords.{open_found}
use Rattle.plan.proofs.Accepted.{accepted_passes, plan_decided}
use Rattle.partitioning.specs.Filling.{open_transactions, Filling, fill}
use Rattle.partitioning.specs.Cost.{Costs, cost_of}
use Rattle.partitioning.specs.Best.{open_words, best, best_number, cost_by}
use Rattle.partitioning.specs.Choosing.{BestFills, IsBest, BestIsLeast, BestUnique}
use Rattle.partitioning.specs.Choosing.{Chooses, RefusesMore, NothingOpen, ChosenBest, ChosenCosts, RefusalKeeps}
use Rattle.partitioning.specs.Answer.{chosen, choice_refused, choice_verdict, choose_result, chosen_words}
use Rattle.partitioning.proofs.Numbers.{numbered_fits}
use Rattle.partitioning.proofs.FirstLeast.{first_least, first_smallest, first_only}
use Rattle.partitioning.proofs.FillWords.{fill_nothing_open}
use Rattle.partitioning.proofs.OpenTransactions.{filling_fits, fits_filling}
use Rattle.partitioning.proofs.Filled.{filled_accepted}
use Rattle.partitioning.proofs.Globals.{cost_means}

pub best_fills : BestFills
best_fills ws e = fits_filling ws e (best ws) (numbered_fits (open_words ws) (best_number ws))

chosen_injective : {a b : ℕ} → chosen a ≡ chosen b → a ≡ b
chosen_injective e = cc

module _ (ws : List ℕ) (e : open_plan_verdict ws ≡ accepted) where
  -- the cost of the plan with these fields
  abbrev cost_with : List ℕ → ℕ
  cost_with fs = cost_of (plan_of (fill fs ws))

  costs_is : (fs : List ℕ) → Filling (plan_of ws) fs → (c : ℕ) → Costs (plan_of (fill fs ws)) c → c ≡ cost_with fs
  costs_is fs f c = (cost_means (fill fs ws) (filled_accepted ws fs e f) c).0

  costs_so : (fs : List ℕ) → Filling (plan_of ws) fs → Costs (plan_of (fill fs ws)) (cost_with fs)
  costs_so fs f = (cost_means (fill fs ws) (filled_accepted ws fs e f) (cost_with fs)).1 refl

  is_best : IsBest ws (best ws)
  unfolding cost_by
  is_best gs g c d x y =
      let fits = filling_fits ws e gs g in
      let p = costs_is (best ws) (best_fills ws e) c x in
      let q = costs_is gs g d y in (
        omega (arith, p, q, first_least (open_words ws) cost_with gs fits),
        λ s. first_smallest (open_words ws) cost_with gs fits (sym p ∙ s ∙ q),
      )

  unique : (fs : List ℕ) → Filling (plan_of ws) fs → IsBest ws fs → fs ≡ best ws
  unfolding cost_by
  unique fs f b =
      first_only (open_words ws) cost_with fs (filling_fits ws e fs f)
      (λ gs h. let g = fits_filling ws e gs h in b gs g (cost_with fs) (cost_with gs) (costs_so fs f) (costs_so gs g))

pub best_is_least : BestIsLeast
best_is_least = is_best

pub best_unique : BestUnique
best_unique ws fs e f b = unique ws e fs f b

pub chosen_costs : ChosenCosts
unfolding choose_result chosen_words
chosen_costs ws c r = go (choice_verdict ws) refl r
  where
    go : (v : Verdict) → choice_verdict ws ≡ v → if_accepted v (chosen (cost_of (plan_of (fill (best ws) ws)))) choice_refused ≡ chosen c
        → (plan_verdict (if_accepted v (fill (best ws) ws) (λ question. ws)) ≡ accepted)
        × Costs (plan_of (if_accepted v (fill (best ws) ws) (λ question. ws))) c
    go accepted e s =
        let o = (then_accepted (open_plan_verdict ws) _ e).0 in
        let a = filled_accepted ws (best ws) o (best_fills ws o) in
        (a, (cost_means (fill (best ws) ws) a c).1 (sym (chosen_injective s)))
    go (refused question) e s = let z : ◌≡◌ {A = ℕ} 0 1 = cc in absurd (omega arith)

pub chosen_best : ChosenBest
unfolding choose_result chosen_words
chosen_best ws c r = go (choice_verdict ws) refl r
  where
    go : (v : Verdict) → choice_verdict ws ≡ v → if_accepted v (chosen (cost_of (plan_of (fill (best ws) ws)))) choice_refused ≡ chosen c
        → (fs : List ℕ) × Filling (plan_of ws) fs × IsBest ws fs × (if_accepted v (fill (best ws) ws) (λ question. ws) ≡ fill fs ws)
    go accepted e s =
        let o = (then_accepted (open_plan_verdict ws) _ e).0 in
        (best ws, best_fills ws o, best_is_least ws o, refl)
    go (refused question) e s = let z : ◌≡◌ {A = ℕ} 0 1 = cc in absurd (omega arith)

pub refusal_keeps : RefusalKeeps
unfolding choose_result chosen_words
refusal_keeps ws q r = go (choice_verdict ws) r
  where
    go : (v : Verdict) → if_accepted v (chosen (cost_of (plan_of (fill (best ws) ws)))) choice_refused ≡ choice_refused q
        → if_accepted v (fill (best ws) ws) (λ question. ws) ≡ ws
    go accepted s = let z : ◌≡◌ {A = ℕ} 0 1 = cc in absurd (omega arith)
    go (refused question) s = refl

pub chooses : Chooses
unfolding choose_result
chooses ws e h = (cost_of (plan_of (fill (best ws) ws)), rw (e, le-leb (length (open_transactions (plan_of ws).transactions)) 6 h))

pub refuses_more : RefusesMore
unfolding choose_result
refuses_more ws e h = rw (e, lt-leb (length (open_transactions (plan_of ws).transactions)) 6 h)

-- ---- with no open field

none_open : (ts : List Transaction) → list_all decided ts ≡ true → open_transactions ts ≡ []
unfolding open_transactions
none_open [] e = refl
none_open (t ∷ ts) e = rw (and_fst (decided t) _ e) (none_open ts (and_snd (decided t) _ e))

pub nothing_open : NothingOpen
unfolding chosen_words
nothing_open ws e =
    let none : open_transactions (plan_of ws).transactions ≡ [] = none_open (plan_of ws).transactions (plan_decided ws e) in
    let c = chooses ws (accepted_passes ws e) (omega (arith, ap length none)) in
    (c.0, c.1, go (choice_verdict ws))
  where
    same : fill (best ws) ws ≡ ws
    same = fill_nothing_open (best ws) ws (not-true (list_any is_open ws) (sym (open_found ws (accepted_passes ws e)) ∙ plan_decided ws e))

    go : (v : Verdict) → if_accepted v (fill (best ws) ws) (λ question. ws) ≡ ws
    go accepted = same
    go (refused question) = refl
