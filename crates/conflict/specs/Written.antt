-- Whether some operation of the plan may write a cell, computed.
use Rattle.std.specs.Prelude.{ℕ, ◌/◌, ◌%◌, Bool, true, false, ◌&&◌, eqb}
use Rattle.std.specs.List.{list_any}
use Rattle.plan.specs.Plan.{Source, param, fixed, reads, writes, Step, cell, operand, tells, Plan}

-- some operation gives this row to the source: to a parameter any
abbrev pub row_given : Source → ℕ → Bool
row_given (param i) row = true
row_given (fixed v) row = eqb row v

-- some operation makes the step's cell this one: cell number = table × 128 + row × 4 + column
unfoldable pub cell_given : ℕ → ℕ → Source → ℕ → Bool
cell_given table column row c = eqb (c / 128) table && (eqb (c % 4) column && row_given row (c / 4 % 32))

unfoldable pub step_writes : Step → ℕ → Bool
step_writes (cell reads table column row) c = false
step_writes (cell writes table column row) c = cell_given table column row c
step_writes (operand f v) c = false
step_writes tells c = false

-- some operation of the plan may write the cell
unfoldable pub written : Plan → ℕ → Bool
written p c = list_any (λ t. list_any (λ s. step_writes s c) t.steps) p.transactions
