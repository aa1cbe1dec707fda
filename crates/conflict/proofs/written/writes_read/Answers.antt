-- Whether a step may write one of some cells: of a write step the test of each cell, and else no.
-- Assumes nothing.
use Rattle.std.proofs.Common.{◌∙◌, rules, tests}
use Rattle.std.proofs.lemmas.Iterator.{YieldsList-from_slice}
use Rattle.std.proofs.lemmas.Iterator.Search.{any_from_yields_List}
use Rattle.plan.specs.Step.{source_from}
use Rattle.conflict.specs.Written.{cell_given}
use Rattle.conflict.proofs.WriteSteps.{writes_given, writes_none}
use Rattle.conflict.proofs.written.writes_read.Goals as goal

pub returns-then-eq : goal.returns-then-eq
returns-then-eq c =
    let i = c.in-Cell in
    writes_given _ i.table i.column i.source (search rules) _ _
    (any_from_yields_List (cell_given i.table i.column (source_from i.source)) c.any.new.self _ c.any.result c.any.ensures.ran
    (YieldsList-from_slice c.args.cells.now cc) (λ x b q k. search (rules, tests)))

pub returns-else-eq : goal.returns-else-eq
returns-else-eq c = c.if-eq.false ∙ writes_none _ _ (λ t k r e. search rules)

pub returns-in-Operand : goal.returns-in-Operand
returns-in-Operand c = writes_none _ _ (λ t k r e. search rules)

pub returns-in-Tell : goal.returns-in-Tell
returns-in-Tell c = writes_none _ _ (λ t k r e. search rules)
