-- The fillings by number, smallest fields first, and the best of them: how the choice is computed. That it is the one that 02 asks for is
-- stated in Choosing.
use Rattle.std.specs.Prelude.{ℕ, zero, suc, ◌+◌, ◌*◌, ◌/◌, ◌%◌, cond, List, [], ◌∷◌, ltb}
use Rattle.std.specs.List.{filter}
use Rattle.word.specs.Field.{parameter_count}
use Rattle.plan.specs.Decode.{none_field, is_open, plan_of}
use Rattle.partitioning.specs.Filling.{fill}
use Rattle.partitioning.specs.Cost.{cost_of}

-- the words of the transactions whose field is open, in plan order
abbrev pub open_words : List ℕ → List ℕ
open_words ws = filter is_open ws

-- how many candidates an open transaction has, and the i-th: its parameters in order, then 15
abbrev pub candidate_count : ℕ → ℕ
candidate_count w = parameter_count w + 1

abbrev pub candidate : ℕ → ℕ → ℕ
candidate w i = cond (ltb i (parameter_count w)) i none_field

-- how many fillings the open words have, and the i-th: the candidates of the last word change first
unfoldable pub filling_count : List ℕ → ℕ
filling_count [] = 1
filling_count (w ∷ ws) = candidate_count w * filling_count ws

unfoldable pub filling : List ℕ → ℕ → List ℕ
filling [] i = []
filling (w ∷ ws) i = candidate w (i / filling_count ws) ∷ filling ws (i % filling_count ws)

-- the first of the numbers below n at which f is least
unfoldable pub least_at : (ℕ → ℕ) → ℕ → ℕ
least_at f zero = 0
least_at f (suc n) = cond (ltb (f n) (f (least_at f n))) n (least_at f n)

-- the plan as filling number i leaves it, and its cost
abbrev pub filled_by : List ℕ → ℕ → List ℕ
filled_by ws i = fill (filling (open_words ws) i) ws

unfoldable pub cost_by : List ℕ → ℕ → ℕ
cost_by ws i = cost_of (plan_of (filled_by ws i))

-- "The plan so filled has the least cost; among equals, the smallest fields in plan order."
abbrev pub best_number : List ℕ → ℕ
best_number ws = least_at (cost_by ws) (filling_count (open_words ws))

abbrev pub best : List ℕ → List ℕ
best ws = filling (open_words ws) (best_number ws)
