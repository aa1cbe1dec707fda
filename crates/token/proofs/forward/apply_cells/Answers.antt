-- The cells still to come make the whole of it.
-- Assumes nothing.
use Rattle.std.proofs.Common.{◌<◌, ◌∙◌, length}
use Rattle.std.specs.Slice.Iter.{chunks_exact_rest}
use Rattle.token.proofs.Forwarding.{cells_next, cells_done}
use Rattle.token.proofs.forward.apply_cells.Goals as goal

pub loop-pair-preserved : goal.loop-pair-preserved
loop-pair-preserved c =
    let v = c.loop-pair.invariant in
    let e = c.in-Some.ensures.steps in
    (e.0 ∙ v.0, rw c.put_value.ensures (cells_next _ _ _ _ _ e.1.0 (e.1.1 ∙ v.0) v.1))

pub returns : goal.returns
returns c =
    let v = c.loop-pair.invariant in
    let few : length (chunks_exact_rest c.loop-pair.pair-iterator) < 2 = rw v.0 at c.in-None.ensures.steps.1.0 in
    cells_done _ _ _ few v.1
