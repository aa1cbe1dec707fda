-- The cell that one step names, and cells that are those of a store.
use Rattle.std.specs.Prelude.{ℕ, ◌≡◌, true, cond, ltb, List, Option, Some, None}
use Rattle.std.specs.List.{list_all}
use Rattle.plan.specs.Plan.{Access, Step, cell, operand, tells}
use Rattle.operation.specs.Operation.{value_of, cell_number, same_access}
use Rattle.operation.specs.Store.{store_size}

-- the cell of a step with this access
abbrev pub cell_of : Access → List ℕ → Step → Option ℕ
cell_of a ps (cell b table column row) = cond (same_access a b) (Some (cell_number table (value_of ps row) column)) None
cell_of a ps (operand f v) = None
cell_of a ps tells = None

abbrev pub AllInStore : List ℕ → Type 0
AllInStore cs = list_all (λ c. ltb c store_size) cs ≡ true
