-- The definitions give every row of the table: antt computes them.
-- Assumes nothing.
use mathlib.Core.Path.{refl}
use lib.Count.{ones}
use Rattle.lists.specs.Lists.{lowest_below, tabulate}
use Rattle.word.specs.Reserved.{source_field, reserved_zero}
use Rattle.plan.specs.Decode.{access_by, action_by, step_of, part_by, transactions_of, plan_of}
use Rattle.plan.specs.Admission.{has_head, counts_in_range, transaction_formed, step_formed}
use Rattle.plan.specs.Admission.{tell_count, well_formed, source_exists, step_exists}
use Rattle.plan.specs.Admission.{part_exists, parameters_exist, transactions_verdict, open_plan_verdict, plan_verdict}
use Rattle.operation.specs.Operation.{cells_named}
use Rattle.operation.specs.Admission.{transaction_exists, unused_zero, row_in_range, parameters_pass, operation_verdict}
use Rattle.conflict.specs.Mask.{mask_of, in_mask}
use Rattle.conflict.specs.Touch.{row_touched, cell_touched, step_touches, desk_mask}
use Rattle.conflict.specs.Written.{cell_given, step_writes, written}
use Rattle.conflict.specs.Class.{class_by}
use Rattle.conflict.specs.Cause.{is_other, cause_desk, has_other, cause_cell, cause_transaction}
use Rattle.conflict.specs.Answer.{classify_result}
use Rattle.operation.specs.Store.{apply_update}
use Rattle.execution.specs.Run.{act, run_from}
use Rattle.frame.specs.Frame.{sums_from, frame_around, write_words, update_words, updates_words}
use Rattle.frame.specs.Admission as frames
use Rattle.frame.specs.Admission.{writes_from, updates_from, desk_count, frame_headed, sums_right, update_formed, cell_formed, few_per_desk}
use Rattle.frame.specs.Admission.{updates_right, frame_verdict, read_verdict}
use Rattle.desk.specs.Priority.{urgent_lead}
use Rattle.desk.specs.Admission.{desk_buffers_fit, waits_here, queue_fits, desk_fits}
use Rattle.visits.specs.Admission.{visit_buffers_fit, turn_verdict}
use Rattle.visits.specs.Waiting.{run_all, updates_of, replies_of, replies_words}
use Rattle.token.specs.Forward.{foreign, apply_all}
use Rattle.visits.specs.Snapshot.{copied_by}
use Rattle.visits.specs.Visit.{visit_verdict, visit_result}
use Rattle.starred.specs.Table.{Starred}

pub starred : Starred
unfolding ones source_field reserved_zero access_by action_by step_of part_by transactions_of plan_of has_head counts_in_range
    transaction_formed step_formed tell_count well_formed source_exists step_exists part_exists parameters_exist transactions_verdict
    open_plan_verdict plan_verdict cells_named transaction_exists unused_zero row_in_range parameters_pass operation_verdict mask_of
    row_touched cell_touched step_touches desk_mask cell_given step_writes written class_by lowest_below in_mask
    is_other cause_desk has_other cause_cell cause_transaction classify_result
    read_verdict frame_verdict frame_headed sums_right updates_right frames.well_formed update_formed cell_formed few_per_desk desk_count
    writes_from
    updates_from sums_from frame_around write_words update_words updates_words act run_from apply_update desk_buffers_fit visit_buffers_fit
    waits_here
    urgent_lead queue_fits desk_fits turn_verdict run_all updates_of replies_of replies_words foreign apply_all visit_verdict visit_result
    copied_by
    tabulate
starred = refl
