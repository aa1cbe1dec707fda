-- The course of 01 as a history of the engine, and one with urgent requests, computed.
-- Assumes nothing.
use Prim.Native.Nat.{ℕ, zero, suc, ◌^◌, ◌<◌}
use mathlib.Core.Path.{refl}
use mathlib.Core.List.Memᴰ
use mathlib.Core.List.{[], ◌∷◌}
use lib.Count.{ones}
use native.Mathlib.Omega.{arith}
use lib.ListN.{get_or}
use Rattle.lists.specs.Lists.{tabulate}
use Rattle.word.specs.Reserved.{reserved_zero, source_field}
use Rattle.plan.specs.Decode.{step_of, part_by, access_by, action_by, transactions_of, plan_of}
use Rattle.plan.specs.Admission.{has_head, counts_in_range, transaction_formed, step_formed}
use Rattle.plan.specs.Admission.{tell_count, source_exists, step_exists, part_exists}
use Rattle.plan.specs.Admission.{parameters_exist, transactions_verdict, open_plan_verdict, plan_verdict}
use Rattle.operation.specs.Operation.{cells_named}
use Rattle.operation.specs.Admission.{transaction_exists, unused_zero, row_in_range, parameters_pass, operation_verdict}
use Rattle.operation.specs.Store.{apply_update}
use Rattle.execution.specs.Run.{act, run_from}
use Rattle.conflict.specs.Mask.{mask_of}
use Rattle.conflict.specs.Touch.{row_touched, cell_touched, step_touches, desk_mask}
use Rattle.conflict.specs.Written.{cell_given, step_writes, written}
use Rattle.conflict.specs.Class.{class_by}
use Rattle.frame.specs.Frame.{write_words, update_words, updates_words, sums_from, frame_around}
use Rattle.frame.specs.Admission.{writes_from, updates_from, desk_count, frame_headed, sums_right, update_formed, cell_formed, well_formed}
use Rattle.frame.specs.Admission.{few_per_desk, updates_right, frame_verdict}
use Rattle.desk.specs.Priority.{urgent_lead}
use Rattle.desk.specs.Admission.{desk_buffers_fit, waits_here, queue_fits, desk_fits}
use Rattle.visits.specs.Admission.{visit_buffers_fit, turn_verdict}
use Rattle.requests.specs.Request.{request_verdict, request_result}
use Rattle.token.specs.Forward.{foreign, apply_all}
use Rattle.visits.specs.Visit.{visit_verdict, visit_result}
use Rattle.visits.specs.Snapshot.{copied_by}
use Rattle.visits.specs.Waiting.{run_all, updates_of, replies_of, replies_words}
use Rattle.history.specs.Course.{Course}
use Rattle.plan.specs.Admission as plans

-- parameters are words
small : (a b : ℕ) → a < 9 → b < 9 → (i : ℕ) → get_or (a ∷ b ∷ 0 ∷ 0 ∷ []) i 0 < 2 ^ 32
small a b h k zero = omega arith
small a b h k (suc zero) = omega arith
small a b h k (suc (suc zero)) = omega arith
small a b h k (suc (suc (suc zero))) = omega arith
small a b h k (suc (suc (suc (suc i)))) = omega arith

pub course : Course
unfolding ones open_plan_verdict plan_verdict has_head counts_in_range transactions_verdict plans.well_formed transaction_formed
    step_formed
    tell_count parameters_exist part_exists step_exists source_exists transactions_of plan_of step_of part_by access_by action_by
    reserved_zero
    source_field frame_verdict frame_headed sums_right updates_right well_formed update_formed cell_formed few_per_desk desk_count
    writes_from
    updates_from sums_from frame_around cells_named transaction_exists unused_zero row_in_range parameters_pass operation_verdict
    apply_update act
    run_from mask_of row_touched cell_touched step_touches desk_mask cell_given step_writes written class_by write_words update_words
    updates_words desk_buffers_fit visit_buffers_fit waits_here urgent_lead queue_fits desk_fits turn_verdict request_verdict request_result
    foreign
    apply_all visit_verdict visit_result copied_by tabulate run_all updates_of replies_of replies_words
course =
    record {
      proper = (
        omega arith,
        small 1 0 (omega arith) (omega arith),
        λ e. tt,
        (
          omega arith,
          small 0 3 (omega arith) (omega arith),
          λ e. tt,
          (
            omega arith,
            tt,
            λ e. Memᴰ.head refl,
            (
              omega arith,
              small 1 0 (omega arith) (omega arith),
              λ e. tt,
              (
                omega arith,
                tt,
                λ e. Memᴰ.tail (Memᴰ.head refl),
                (
                  omega arith,
                  tt,
                  λ e. Memᴰ.tail (Memᴰ.head refl),
                  (
                    omega arith,
                    small 1 0 (omega arith) (omega arith),
                    λ e. tt,
                    (omega arith, tt, λ e. Memᴰ.tail (Memᴰ.tail (Memᴰ.head refl)), tt),
                  ),
                ),
              ),
            ),
          ),
        ),
      );
      gives = refl;
      urgent_proper = (
        omega arith,
        small 0 1 (omega arith) (omega arith),
        λ e. tt,
        (
          omega arith,
          small 0 2 (omega arith) (omega arith),
          λ e. tt,
          (
            omega arith,
            small 0 3 (omega arith) (omega arith),
            λ e. tt,
            (omega arith, small 0 4 (omega arith) (omega arith), λ e. tt, (omega arith, tt, λ e. Memᴰ.head refl, tt)),
          ),
        ),
      );
      urgent_gives = refl;
    }
