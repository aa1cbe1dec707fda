-- Whether a transaction has a write step: the test of each step is that of the definition.
-- Assumes nothing.
use Rattle.std.proofs.Common.{rules, tests}
use Rattle.std.proofs.lemmas.Iterator.Consumers.{YieldsList-from_first}
use Rattle.std.proofs.lemmas.Iterator.Search.{any_from_yields_List}
use Rattle.plan.specs.Step.{step_from}
use Rattle.plan.specs.Transaction.{the_steps}
use Rattle.conflict.specs.Class.{is_write}
use Rattle.conflict.proofs.class.has_write.Goals as goal

pub returns : goal.returns
returns c =
    any_from_yields_List is_write c.any.new.self _ c.any.result c.any.ensures.ran
    (YieldsList-from_first step_from the_steps _ c.steps.ensures) (λ x b q k. search (rules, tests))
