-- The code's sets of rows, as the list of the definitions.
use Rattle.std.specs.Prelude.{ℕ, List, ◌++◌}
use Rattle.partitioning.specs.declared.touched.Touched.{Touched}

abbrev pub sets_of : Touched → List ℕ
sets_of t = t.every ++ (t.own ++ t.desk_0)
