-- The store as the pairs passed by left it: those still to come make the whole of it.
-- Assumes nothing.
use Rattle.std.proofs.Common.{rules, ◌≡◌, get_or, set}
use lib.Seq.{set_out}
use Rattle.execution.specs.Answer.{update_of}
use Rattle.execution.proofs.Updates.{apply_next, apply_done}
use Rattle.execution.proofs.execution.apply.Goals as goal
use Rattle.execution.proofs.execution.apply.Goals.{then-at-store, else-at-store}

pub loop-cell-preserved : goal.loop-cell-preserved
loop-cell-preserved c =
    let u = update_of c.args.update.now in
    let i = c.loop-cell.cell-index in
    let written : c.if-at-store.store ≡ set c.loop-cell.store (get_or u i (0, 0)).0 (get_or u i (0, 0)).1 =
    elim c.if-at-store.branch [
      | then-at-store w ↦ search rules
      | else-at-store w ↦ let out = set_out c.loop-cell.store _ (get_or u i (0, 0)).1 w.if-at-store.false in search rules
    ] in
    apply_next i u c.loop-cell.store c.if-at-store.store _ (search rules) written c.loop-cell.invariant

pub returns : goal.returns
returns c = apply_done c.loop-cell.cell-index (update_of c.args.update.now) c.loop-cell.store _ (search rules) c.loop-cell.invariant
