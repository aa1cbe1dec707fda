-- The chooser's answer and the words that it leaves, by what was found on the way.
-- Assumes nothing.
use mathlib.Core.Path.{◌≡◌, ◌∙◌, sym, ap}
use mathlib.Core.List.{List}
use Prim.Native.Nat.{ℕ, ◌≤◌, ◌<◌}
use native.Mathlib.Omega.{arith}
use lib.ListN.{length}
use borrow.Author.Tests.{le-leb, lt-leb}
use Rattle.verdict.specs.Verdict.{accepted, refused}
use Rattle.plan.specs.Decode.{plan_of}
use Rattle.plan.specs.Admission.{open_plan_verdict}
use Rattle.partitioning.specs.Filling.{open_transactions}
use Rattle.partitioning.specs.Best.{open_words, best_number, filled_by, cost_by}
use Rattle.partitioning.specs.Answer.{chosen, choice_refused, most_open, choose_result, chosen_words}
use Rattle.partitioning.proofs.OpenTransactions.{open_counted}

module _ (ws : List ℕ) where
  pub refused_plan : (question : ℕ) → open_plan_verdict ws ≡ refused question
      → (choice_refused question ≡ choose_result ws) × (ws ≡ chosen_words ws)
  unfolding choose_result chosen_words
  refused_plan question e = (sym (rw e), sym (rw e))

  pub too_open : open_plan_verdict ws ≡ accepted → most_open < length (open_words ws)
      → (choice_refused 16 ≡ choose_result ws) × (ws ≡ chosen_words ws)
  unfolding choose_result chosen_words
  too_open e h =
      let f = lt-leb (length (open_transactions (plan_of ws).transactions)) most_open (omega (arith, h, open_counted ws e)) in
      (sym (rw (e, f)), sym (rw (e, f)))

  -- filled by number n, at cost c
  pub chosen_plan : open_plan_verdict ws ≡ accepted → length (open_words ws) ≤ most_open → (n c : ℕ) → n ≡ best_number ws → c ≡ cost_by ws n
      → (filled : List ℕ) → filled ≡ filled_by ws n → (chosen c ≡ choose_result ws) × (filled ≡ chosen_words ws)
  unfolding choose_result chosen_words cost_by
  chosen_plan e h n c m d filled g =
      let f = le-leb (length (open_transactions (plan_of ws).transactions)) most_open (omega (arith, h, open_counted ws e)) in
      (ap chosen (d ∙ ap (cost_by ws) m) ∙ sym (rw (e, f)), g ∙ ap (filled_by ws) m ∙ sym (rw (e, f)))
