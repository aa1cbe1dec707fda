-- The masks of the cells that an operation may write: the test of each cell is that of the definition.
-- Assumes nothing.
use Rattle.std.proofs.Common.{get_or, eqb, rules, tests}
use Rattle.std.specs.Int.Count.{ones}
use Rattle.std.proofs.lemmas.Iterator.Consumers.{YieldsList-from_first}
use Rattle.std.proofs.lemmas.Iterator.Search.{all_from_yields_List}
use Rattle.operation.specs.Cells.{the_cells}
use Rattle.conflict.proofs.class.one_desk_each.Goals as goal

pub returns : goal.returns
returns c =
    all_from_yields_List (λ k. eqb (ones (get_or c.args.masks.now k 0)) 1) c.all.new.self _ c.all.result c.all.ensures.ran
    (YieldsList-from_first (λ x. x) the_cells _ c.cells.ensures) (λ x b q k. search (rules, tests))
