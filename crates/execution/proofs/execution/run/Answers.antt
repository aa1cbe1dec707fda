-- A run along the steps: what is still to run gives the whole outcome.
-- Assumes nothing.
use Rattle.std.proofs.Common.{refl, ◌∙◌, sym, ap, rules}
use Rattle.plan.specs.Step.{access_from}
use Rattle.execution.specs.Answer.{next_of}
use Rattle.execution.proofs.Running.{running_start, running_done, running_room, running_low, running_read, running_write}
use Rattle.execution.proofs.Running.{running_tell_room, running_tell, running_act, running_stop}
use Rattle.execution.proofs.execution.run.Goals as goal

pub loop-step-init : goal.loop-step-init
loop-step-init c =
    let o = c.args.operation.now in
    rw (c.new-told.ensures, c.new-update.ensures, c.into_iter-step-iterator.ensures.into_iter_gives)
    (running_start _ o.transaction.formed refl o.passes c.steps-step-items.ensures refl)

pub cell_number-cell-requires : goal.cell_number-cell-requires
cell_number-cell-requires c =
    let e = c.in-Some.ensures.steps in
    running_low c.loop-step.invariant (access_from c.in-Cell.access) (rw c.in-Cell.is at e)

pub loop-step-preserved-in-Read : goal.loop-step-preserved-in-Read
loop-step-preserved-in-Read c =
    let e = c.in-Some.ensures.steps in
    running_read c.loop-step.invariant _ _ (rw (c.in-Cell.is, c.in-Read.is) at e) c.cell_number-cell.ensures c.seen-number.ensures

pub push-requires : goal.push-requires
push-requires c =
    let e = c.in-Some.ensures.steps in
    let room = running_room c.loop-step.invariant _ e in search rules

pub loop-step-preserved-in-Write : goal.loop-step-preserved-in-Write
loop-step-preserved-in-Write c =
    let e = c.in-Some.ensures.steps in
    running_write c.loop-step.invariant _ _ (rw (c.in-Cell.is, c.in-Write.is) at e) c.cell_number-cell.ensures c.push.ensures

pub returns-in_default : goal.returns-in_default
returns-in_default c =
    let e = c.in-Some.ensures.steps in
    let stopped = running_stop c.loop-step.invariant _ (rw c.in-Operand.is at e) c.source_value-operand.ensures
    (sym (ap next_of c.in_default.is) ∙ c.act.ensures) in search rules

pub loop-step-preserved-in-Operand : goal.loop-step-preserved-in-Operand
loop-step-preserved-in-Operand c =
    let e = c.in-Some.ensures.steps in
    running_act c.loop-step.invariant _ (rw c.in-Operand.is at e) c.source_value-operand.ensures _
    (sym (ap next_of c.in-Some-act.is) ∙ c.act.ensures)

pub push-requires-in-Tell : goal.push-requires-in-Tell
push-requires-in-Tell c =
    let e = c.in-Some.ensures.steps in
    let room = running_tell_room c.loop-step.invariant (rw c.in-Tell.is at e) in search rules

pub loop-step-preserved : goal.loop-step-preserved
loop-step-preserved c =
    let e = c.in-Some.ensures.steps in
    running_tell c.loop-step.invariant _ (rw c.in-Tell.is at e) c.push-in-Tell.ensures.items

pub returns : goal.returns
returns c =
    let done = running_done _ c.in-None.ensures.steps.0 c.loop-step.invariant in search rules
