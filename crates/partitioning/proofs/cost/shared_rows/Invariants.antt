-- The rows that two desks or more touch, table column by table column.
-- Assumes nothing.
use Rattle.lists.proofs.Laws.{Tabling}
use Rattle.partitioning.specs.Shared.{shared_in}
use Rattle.partitioning.specs.Sets.{sets_of}
use Rattle.partitioning.proofs.cost.shared_rows.Given as goal

abbrev pub invariant-loop-a : goal.invariant-loop-a
invariant-loop-a l = Tabling 32 (shared_in l.desks (sets_of l.touched)) l.a l.shared
