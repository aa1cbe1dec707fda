-- The waiting requests one after another, each read from the row: what has run joined with what is still to run.
-- Assumes nothing.
use Rattle.visits.proofs.WaitingRuns.{runs, next, all_ran}
use Rattle.visits.proofs.running.run_waiting.Goals as goal

pub run_one-end-requires : goal.run_one-end-requires
run_one-end-requires c =
    let e = c.in-Some.ensures.steps in
    rw e.1 (runs c.requires.1 c.loop-at.invariant e.0 c.admitted_operation-operation.ensures)

pub loop-at-preserved : goal.loop-at-preserved
loop-at-preserved c =
    let e = c.in-Some.ensures.steps in
    rw (e.1, e.2) (next c.requires.1 c.loop-at.invariant e.0 c.admitted_operation-operation.ensures (rw e.1 at c.run_one-end.ensures))

pub returns : goal.returns
returns c = let e = c.in-None.ensures.steps in all_ran c.requires.1 c.loop-at.invariant e.0.0
