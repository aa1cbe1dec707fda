-- A visit that passes: the calls one after another, each on what the one before left, leave what the visit leaves.
-- Assumes nothing.
use Rattle.visits.proofs.Outgoing.{forwards, waiting_run, seals, sealed_is}
use Rattle.visits.proofs.accepted.accepted_visit.Goals as goal

pub forward_foreign-copied-requires : goal.forward_foreign-copied-requires
forward_foreign-copied-requires c = forwards _ _ _ _ _ c.requires _ c.updates.ensures

pub run_waiting-requires : goal.run_waiting-requires
run_waiting-requires c =
    let e = c.forward_foreign-copied.ensures in
    waiting_run _ _ _ _ _ c.requires _ c.updates.ensures _ _ _ e.applied e.words e.written

pub seal-requires : goal.seal-requires
seal-requires c =
    let e = c.forward_foreign-copied.ensures in
    seals _ _ _ _ _ c.requires _ c.updates.ensures _ _ _ e.applied e.words e.written _ _ _ _ c.run_waiting.ensures

pub returns : goal.returns
returns c =
    let e = c.forward_foreign-copied.ensures in
    sealed_is _ _ _ _ _ c.requires _ c.updates.ensures _ _ _ e.applied e.words e.written _ _ _ _ c.run_waiting.ensures _ _
    c.visit-visit.ensures c.desks-desks.ensures.desks _ c.seal.ensures
