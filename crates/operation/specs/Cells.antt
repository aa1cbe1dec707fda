-- What the code's iterator over the cells of an operation stands for.
use Rattle.std.specs.Prelude.{ℕ, List}
use Rattle.plan.specs.Step.{access_from}
use Rattle.plan.specs.Transaction.{the_steps}
use Rattle.operation.specs.Operation.{cells_named}
use Rattle.operation.specs.declared.named.Cells.{Cells}

-- the cells that are left
abbrev pub the_cells : Cells → List ℕ
the_cells s = cells_named (access_from s.access) s.params (the_steps s.steps)
