-- Question 8 of a transaction with parameters: the test of each step is that of the definition.
-- Assumes nothing.
use Rattle.std.proofs.Common.{◌≡◌, rules, tests}
use Rattle.std.specs.List.{list_all}
use Rattle.std.proofs.lemmas.Iterator.Consumers.{YieldsList-from_first}
use Rattle.std.proofs.lemmas.Iterator.Search.{all_from_yields_List}
use Rattle.plan.specs.Step.{step_from}
use Rattle.plan.specs.Transaction.{the_transaction, the_steps}
use Rattle.operation.specs.Admission.{parameters_pass, row_in_range}
use Rattle.operation.proofs.operation.Operation.of.Goals as goal

pub returns-then-not-rows-clause-passes : goal.returns-then-not-rows-clause-passes
unfolding parameters_pass
returns-then-not-rows-clause-passes c =
    let ps = c.args.params in
    let rows : c.all-rows.result ≡ list_all (row_in_range ps) (the_transaction c.args.transaction).steps =
    all_from_yields_List (row_in_range ps) c.all-rows.new.self _ c.all-rows.result c.all-rows.ensures.ran
    (YieldsList-from_first step_from the_steps _ c.steps.ensures) (λ x b q k. search (rules, tests)) in
    search rules

pub invariant_of-result : goal.invariant_of-result
unfolding parameters_pass
invariant_of-result c =
    let ps = c.args.params in
    let rows : c.all-rows.result ≡ list_all (row_in_range ps) (the_transaction c.args.transaction).steps =
    all_from_yields_List (row_in_range ps) c.all-rows.new.self _ c.all-rows.result c.all-rows.ensures.ran
    (YieldsList-from_first step_from the_steps _ c.steps.ensures) (λ x b q k. search (rules, tests)) in
    record { passes = search rules }
