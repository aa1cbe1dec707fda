-- The cells one after another: each word is what the definition says of its cell.
-- Assumes nothing.
use lib.ListN.{get_or}
use Rattle.visits.proofs.SharedCopied.{Copying}
use Rattle.visits.proofs.snapshot.copy_shared.Given as goal

abbrev pub invariant-loop-c : goal.invariant-loop-c
invariant-loop-c l = Copying (λ k. get_or l.masks k 0) l.cells l.initial.snapshot l.c l.snapshot
