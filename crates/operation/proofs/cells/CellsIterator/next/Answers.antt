-- The next cell is that of the first step left that names one.
-- Assumes nothing.
use Rattle.std.proofs.Common.{◌∙◌, sym, rules}
use Rattle.operation.specs.Operation.{cells_named}
use Rattle.operation.proofs.CellSteps.{next_cells, next_in_store}
use Rattle.operation.proofs.cells.CellsIterator.next.Goals as goal

pub cell_of-requires : goal.cell_of-requires
cell_of-requires c = (next_in_store _ _ _ _ _ _ c.loop-step.invariant c.in-Some.ensures.steps c.args.self.now.in_store).0

pub invariant_of-self : goal.invariant_of-self
invariant_of-self c =
    record { in_store = (next_in_store _ _ _ _ _ _ c.loop-step.invariant c.in-Some.ensures.steps c.args.self.now.in_store).1 }

pub returns-in-Some-cell_of-clause-steps : goal.returns-in-Some-cell_of-clause-steps
returns-in-Some-cell_of-clause-steps c =
    let split = next_cells _ _ _ _ _ _ c.loop-step.invariant c.in-Some.ensures.steps in
    let found = sym c.cell_of.ensures ∙ c.in-Some-cell_of.is in rw found at split

pub returns-in-Some-cell_of-clause-goes : goal.returns-in-Some-cell_of-clause-goes
returns-in-Some-cell_of-clause-goes c =
    let split = next_cells _ _ _ _ _ _ c.loop-step.invariant c.in-Some.ensures.steps in
    let found = sym c.cell_of.ensures ∙ c.in-Some-cell_of.is in
    let left = rw found at split in search rules

pub loop-step-preserved : goal.loop-step-preserved
loop-step-preserved c =
    let split = next_cells _ _ _ _ _ _ c.loop-step.invariant c.in-Some.ensures.steps in search rules

pub returns-clause-steps : goal.returns-clause-steps
unfolding cells_named
returns-clause-steps c = search rules
