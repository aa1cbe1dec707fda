-- The store with the others' updates still to come, and the outgoing words with their words still to come, are what is to be left.
-- Assumes nothing.
use Rattle.std.proofs.Common.{rules}
use Rattle.token.proofs.Forwarding.{forwarding_start, forwarding_end, forwarding_fits, forwarding_own, forwarding_room, forwarding_other}
use Rattle.token.proofs.forward.forward_foreign.Goals as goal

pub loop-head-init : goal.loop-head-init
loop-head-init c = forwarding_start _ _ _ _ c.requires.0

pub split_at-requires : goal.split_at-requires
split_at-requires c = forwarding_fits c.loop-head.invariant c.in-Some.ensures.value

pub slice_bounds-copy_from_slice-end : goal.slice_bounds-copy_from_slice-end
slice_bounds-copy_from_slice-end c =
    let room = forwarding_room c.loop-head.invariant c.in-Some.ensures.value c.split_at.ensures.front c.if-sender-desk.true c.requires.1 in
    search rules

pub loop-head-preserved-then-sender-desk : goal.loop-head-preserved-then-sender-desk
loop-head-preserved-then-sender-desk c =
    rw c.split_at.ensures.back
    (forwarding_other c.loop-head.invariant c.in-Some.ensures.value c.split_at.ensures.front c.if-sender-desk.true c.apply_cells.ensures
    c.copy_from_slice.ensures.after)

pub loop-head-preserved : goal.loop-head-preserved
loop-head-preserved c =
    rw c.split_at.ensures.back (forwarding_own c.loop-head.invariant c.in-Some.ensures.value c.if-sender-desk.false)

pub returns : goal.returns
returns c = let done = forwarding_end c.loop-head.invariant c.in_default.ensures.value in search rules
