-- Where a transaction and its steps stand among the words of a plan.
use Rattle.std.specs.Prelude.{ℕ, zero, suc, ◌+◌, ◌≤◌, ◌≡◌, true, cond, List, ltb, length, get_or, take, drop}
use Rattle.std.specs.List.{list_all}
use Rattle.lists.specs.Lists.{tabulate}
use Rattle.word.specs.Field.{step_count, head_transactions}
use Rattle.plan.specs.Plan.{Transaction}
use Rattle.plan.specs.Decode.{transaction_of, head_of}
use Rattle.plan.specs.Admission.{transaction_formed, step_formed, tell_count, most_tells}

-- the first stands behind the head, each next one behind the steps of the one before
unfoldable pub transaction_place : List ℕ → ℕ → ℕ
transaction_place ws zero = 1
transaction_place ws (suc k) = transaction_place ws k + 1 + step_count (get_or ws (transaction_place ws k) 0)

-- a table of the places of transactions 0 to 31, with 0 for those that the plan does not have
abbrev pub transaction_places : List ℕ → List ℕ
transaction_places ws = tabulate 32 (λ k. cond (ltb k (head_transactions (head_of ws))) (transaction_place ws k) 0)

-- the transaction whose word stands at `at`, with its steps behind it
abbrev pub transaction_from : List ℕ → ℕ → Transaction
transaction_from ws at = transaction_of (get_or ws at 0) (drop (at + 1) ws)

-- how many steps it has, the word of its step s, and the words of all
abbrev pub steps_at : List ℕ → ℕ → ℕ
steps_at ws at = step_count (get_or ws at 0)

abbrev pub step_word : List ℕ → ℕ → ℕ → ℕ
step_word ws at s = get_or ws (at + 1 + s) 0

abbrev pub step_words : List ℕ → ℕ → List ℕ
step_words ws at = take (steps_at ws at) (drop (at + 1) ws)

-- a well-formed transaction stands at `at`, whole
pub record StandsAt (ws : List ℕ) (at : ℕ) : Type 0 where
  pub room : at + 1 + steps_at ws at ≤ length ws
  pub form : transaction_formed (get_or ws at 0) ≡ true
  pub steps : list_all step_formed (take (steps_at ws at) (drop (at + 1) ws)) ≡ true
  pub tells_few : tell_count (transaction_from ws at).steps ≤ most_tells
