-- The words written so far, joined with those of the pairs still to come, are the update's.
-- Assumes nothing.
use Rattle.std.proofs.Common.{drop}
use Rattle.lists.proofs.Laws.{Filling}
use Rattle.execution.specs.Answer.{update_of}
use Rattle.frame.specs.Frame.{sent, write_words, update_words}
use Rattle.token.proofs.writer.write_update.Given as goal

abbrev pub invariant-loop-cell : goal.invariant-loop-cell
invariant-loop-cell l =
    let whole = update_words (sent l.desk (update_of l.update)) in
    Filling whole l.fn.out l.out l.end (write_words (drop l.cell-index (update_of l.update)))
