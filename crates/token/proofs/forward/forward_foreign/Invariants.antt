-- The store with the others' updates still to come, and the outgoing words with their words still to come, are what is to be left.
-- Assumes nothing.
use Rattle.std.proofs.Common.{length}
use Rattle.token.proofs.Forwarding.{Forwarding}
use Rattle.token.proofs.forward.forward_foreign.Given as goal

abbrev pub invariant-loop-head : goal.invariant-loop-head
invariant-loop-head l = Forwarding l.desk l.body l.initial.cells l.initial.out l.cells l.out l.end l.rest

abbrev pub decreases-loop-head : goal.decreases-loop-head
decreases-loop-head l = length l.rest
