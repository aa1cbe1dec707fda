-- What the chooser answers, and what it leaves of the plan that it is lent.
use Rattle.std.specs.Prelude.{ℕ, List, leb, length, Result, Ok, Err}
use Rattle.verdict.specs.Verdict.{Verdict, ask, ◌then◌, if_accepted, question_of}
use Rattle.plan.specs.Decode.{plan_of}
use Rattle.plan.specs.Admission.{open_plan_verdict}
use Rattle.partitioning.specs.Filling.{open_transactions, fill}
use Rattle.partitioning.specs.Cost.{cost_of}
use Rattle.partitioning.specs.Best.{best}
use Rattle.verdict.specs.declared.Refusal.{Refusal}

-- the cost of the plan so filled, or a question's number
pub data Answer : Type 0 where
  chosen : ℕ → Answer
  choice_refused : ℕ → Answer

abbrev pub answer_of : Result ℕ Refusal → Answer
answer_of (Ok cost) = chosen cost
answer_of (Err r) = choice_refused (question_of r)

-- "more than six open fields"
abbrev pub most_open : ℕ
most_open = 6

-- questions 1 to 4; "It refuses with 16 a plan with more than six open fields .. after question 4"
abbrev pub choice_verdict : List ℕ → Verdict
choice_verdict ws = open_plan_verdict ws then ask 16 (leb (length (open_transactions (plan_of ws).transactions)) most_open)

unfoldable pub choose_result : List ℕ → Answer
choose_result ws = if_accepted (choice_verdict ws) (chosen (cost_of (plan_of (fill (best ws) ws)))) choice_refused

-- the words of the plan at exit
unfoldable pub chosen_words : List ℕ → List ℕ
chosen_words ws = if_accepted (choice_verdict ws) (fill (best ws) ws) (λ question. ws)
