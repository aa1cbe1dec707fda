-- The lowest cell that an operation may write and another desk may touch: the least of those that pass.
-- Assumes nothing.
use Rattle.std.proofs.Common.{◌∙◌, ℕ, sym, get_or, rules, tests}
use Rattle.std.proofs.lemmas.Iterator.Adapters.{option_map_id}
use Rattle.std.proofs.lemmas.Iterator.Consumers.{YieldsList-from_first, YieldsList-from_filter, YieldsList-at, min_from_yields_List}
use Rattle.operation.specs.Cells.{the_cells}
use Rattle.conflict.specs.Cause.{has_other}
use Rattle.conflict.proofs.Tabled.{cause_cell_tabled}
use Rattle.conflict.proofs.cause.cause_cell.Goals as goal

pub returns : goal.returns
returns c =
    let test = λ (k : ℕ). has_other (get_or c.args.masks.now.masks k 0) c.args.desk in
    sym (option_map_id c.min.result)
    ∙ min_from_yields_List _ c.min.result c.min.ensures.ran
    (YieldsList-from_filter _ test
    (YieldsList-at c.filter.ensures.source (YieldsList-from_first (λ x. x) the_cells _ c.cells.ensures))
    c.filter.ensures.closure (λ x r q k. search (rules, tests)))
    ∙ cause_cell_tabled c.args.operation.now.transaction _ c.args.operation.now.passes _ _ c.args.masks.now.filled _
