-- Question 3 of one transaction.
use Rattle.std.specs.Prelude.{ℕ, ◌≤◌, ◌≡◌, true, List, map, length}
use Rattle.std.specs.List.{list_all}
use Rattle.word.specs.Field.{step_count}
use Rattle.plan.specs.Decode.{step_of}
use Rattle.plan.specs.Admission.{transaction_formed, step_formed, tell_count, most_tells}

-- its word is w, and behind it stand the words of its steps, and no others
pub record IsTransaction (w : ℕ) (ws : List ℕ) : Type 0 where
  pub form : transaction_formed w ≡ true
  pub count : length ws ≡ step_count w
  pub steps : list_all step_formed ws ≡ true
  pub tells_few : tell_count (map step_of ws) ≤ most_tells
