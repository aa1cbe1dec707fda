-- The cells still to come make the whole of it.
-- Assumes nothing.
use Rattle.std.proofs.Common.{◌≡◌, ◌/◌, length}
use Rattle.std.specs.Slice.Iter.{chunks_exact_rest, chunks_exact_size}
use Rattle.operation.specs.Store.{apply_update}
use Rattle.frame.specs.Admission.{writes_from}
use Rattle.token.proofs.forward.apply_cells.Given as goal

abbrev pub invariant-loop-pair : goal.invariant-loop-pair
invariant-loop-pair l =
    let rest = chunks_exact_rest l.pair-iterator in
    (chunks_exact_size l.pair-iterator ≡ 2)
    × (apply_update (writes_from (length rest / 2) rest) l.cells ≡ apply_update (writes_from (length l.words / 2) l.words) l.initial.cells)
