-- The words written so far, joined with those of the pairs still to come, are the update's.
-- Assumes nothing.
use Rattle.std.proofs.Common.{◌<◌, refl, ◌∙◌, length, arith, rules}
use lib.ListN.{length-set}
use Rattle.lists.proofs.Laws.{fill_none, fill_word}
use Rattle.execution.specs.Answer.{update_of}
use Rattle.frame.specs.Frame.{update_words}
use Rattle.token.proofs.Written.{pair_room, fill_pair, pairs_done}
use Rattle.token.proofs.writer.write_update.Goals as goal

pub bounds-out-0 : goal.bounds-out-0
unfolding update_words
bounds-out-0 c = omega (arith, c.requires)

pub loop-cell-init : goal.loop-cell-init
unfolding update_words
loop-cell-init c =
    rw (c.update_head.ensures, c.as_slice-pairs.ensures) (fill_word (fill_none _ c.args.out.now) (omega (arith, c.requires)))

pub bounds-out-end : goal.bounds-out-end
bounds-out-end c =
    let u = update_of c.args.update.now in
    let more : c.loop-cell.cell-index < length u = search rules in
    let room = pair_room u c.loop-cell.invariant more c.requires in omega arith

pub bounds-out-end-in-loop-cell : goal.bounds-out-end-in-loop-cell
bounds-out-end-in-loop-cell c =
    let u = update_of c.args.update.now in
    let more : c.loop-cell.cell-index < length u = search rules in
    let room = pair_room u c.loop-cell.invariant more c.requires in simp length-set (omega arith)

pub loop-cell-preserved : goal.loop-cell-preserved
loop-cell-preserved c =
    let u = update_of c.args.update.now in
    let items = c.as_slice-pairs.ensures in
    rw items (fill_pair u c.loop-cell.invariant (search rules) _ (c.cell_word.ensures ∙ rw items refl) c.requires)

pub returns : goal.returns
returns c = let done = pairs_done (update_of c.args.update.now) c.loop-cell.invariant (search rules) in search rules
