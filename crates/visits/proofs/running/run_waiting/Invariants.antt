-- The waiting requests one after another, each read from the row: what has run joined with what is still to run.
-- Assumes nothing.
use lib.ListN.{take}
use Rattle.std.specs.Iterator.Adapters.{enumerate_source, enumerate_count}
use Rattle.plan.specs.Accepted.{the_plan}
use Rattle.queue.specs.Words.{records_in}
use Rattle.queue.specs.Waiting.{the_waiting}
use Rattle.visits.proofs.WaitingRuns.{Running}
use Rattle.visits.proofs.running.run_waiting.Given as goal

abbrev pub invariant-loop-at : goal.invariant-loop-at
invariant-loop-at l =
    Running (the_plan l.plan) l.desk (take l.waiting (records_in l.row)) l.initial.cells l.initial.out l.initial.replies
    l.cells l.out l.replies l.end (enumerate_count l.at-iterator) (the_waiting (enumerate_source l.at-iterator))
