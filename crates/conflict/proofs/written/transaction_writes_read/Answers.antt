-- Whether a step of a transaction may write one of some cells: the test of each step is that of the definition.
-- Assumes nothing.
use Rattle.std.proofs.Common.{rules, tests}
use Rattle.std.specs.List.{list_any}
use Rattle.std.proofs.lemmas.Iterator.Consumers.{YieldsList-from_first}
use Rattle.std.proofs.lemmas.Iterator.Search.{any_from_yields_List}
use Rattle.plan.specs.Step.{step_from}
use Rattle.plan.specs.Transaction.{the_steps}
use Rattle.conflict.specs.Written.{step_writes}
use Rattle.conflict.proofs.written.transaction_writes_read.Goals as goal

pub returns : goal.returns
returns c =
    any_from_yields_List (λ s. list_any (step_writes s) c.args.cells.now) c.any.new.self _ c.any.result c.any.ensures.ran
    (YieldsList-from_first step_from the_steps _ c.steps.ensures) (λ x b q k. search (rules, tests))
