-- What the answers to a visit's questions leave, on a queue of plain words.
--     by_opened                       the verdict of all, by that of questions 1 to 6 and 17 and that of 10 to 15
--     opened_no, plan_refused         the verdict of all, where one of 1 to 6 and 17 is answered with no; where one of 1 to 4 and 17 is
--     refused_leaves                  a question is answered with no
--     on_records, accepted_leaves     all are answered with yes
-- Assumes nothing.
use mathlib.Core.Path.{◌≡◌, refl, ◌∙◌, sym, ap, ap₂, subst}
use mathlib.Core.Bool.{◌&&◌}
use mathlib.Core.List.{List}
use Prim.Native.Nat.{ℕ}
use Rattle.verdict.specs.Verdict.{Verdict, accepted, refused, ask, ◌then◌}
use Rattle.verdict.proofs.Verdicts.{then_associates}
use Rattle.plan.specs.Decode.{plan_of}
use Rattle.plan.specs.Admission.{plan_verdict}
use Rattle.frame.specs.Admission.{frame_verdict}
use Rattle.queue.specs.declared.record.Request.{Request}
use Rattle.queue.specs.Words.{records_in, queue_in}
use Rattle.desk.specs.declared.state.Desk.{Desk}
use Rattle.desk.specs.Holding.{Holding, holding}
use Rattle.desk.specs.Admission.{desk_buffers_fit, desk_fits}
use Rattle.visits.specs.Admission.{visit_buffers_fit, turn_verdict}
use Rattle.visits.specs.Snapshot.{snapshot_taken}
use Rattle.visits.specs.Visit.{unchanged, accepted_visit, visit_verdict, visit_result}
use Rattle.visits.specs.Core.{Passable}
use Rattle.visits.proofs.Questions.{questions_give}
use Rattle.visits.proofs.Rows.{row_whole}

module _ (ws : List ℕ) (d : Desk) (cells row snapshot frame out replies : List ℕ) where
  -- what the desk holds
  abbrev held : Holding
  held = holding d cells (queue_in row)

  -- questions 1 to 6 and 17
  abbrev opened : Verdict
  opened =
      plan_verdict ws then ask 5 (desk_buffers_fit cells (queue_in row) && visit_buffers_fit snapshot out replies)
      then ask 6 (desk_fits (plan_of ws) d (queue_in row))

  -- questions 10 to 15
  abbrev of_frame : Verdict
  of_frame = frame_verdict (plan_of ws).desks frame then turn_verdict d frame

  pub by_opened : (v w : Verdict) → v ≡ opened → w ≡ of_frame → visit_verdict ws held snapshot frame out replies ≡ (v then w)
  unfolding visit_verdict
  by_opened v w e f =
      let five : Verdict = ask 5 (desk_buffers_fit cells (queue_in row) && visit_buffers_fit snapshot out replies) in
      let six : Verdict = ask 6 (desk_fits (plan_of ws) d (queue_in row)) in
      ap (◌then◌ (plan_verdict ws)) (then_associates five six of_frame)
      ∙ then_associates (plan_verdict ws) (five then six) of_frame ∙ ap₂ ◌then◌ (sym e) (sym f)

  pub opened_no : (question : ℕ) → refused question ≡ opened → visit_verdict ws held snapshot frame out replies ≡ refused question
  opened_no question e = by_opened (refused question) of_frame e refl

  pub plan_refused : (question : ℕ) → refused question ≡ plan_verdict ws
      → visit_verdict ws held snapshot frame out replies ≡ refused question
  unfolding visit_verdict
  plan_refused question e = rw (← e)

  pub refused_leaves : (question : ℕ) → visit_verdict ws held snapshot frame out replies ≡ refused question
      → unchanged held snapshot out replies question ≡ visit_result ws held snapshot frame out replies
  unfolding visit_result
  refused_leaves question e = rw e

  module _ (e : visit_verdict ws held snapshot frame out replies ≡ accepted) where
    whole : queue_in row ≡ records_in row
    whole = row_whole row (questions_give ws held snapshot frame out replies e).queue_long

    pub on_records : Passable ws (holding d cells (records_in row)) frame out replies
    on_records =
        subst (λ (rs : List Request). Passable ws (holding d cells rs) frame out replies) whole
        (questions_give ws held snapshot frame out replies e)

    pub accepted_leaves : (taken : List ℕ) → taken ≡ snapshot_taken (plan_of ws) cells snapshot
        → accepted_visit (plan_of ws) (holding d cells (records_in row)) frame taken out replies
        ≡ visit_result ws held snapshot frame out replies
    unfolding visit_result
    accepted_leaves taken t =
        rw (e, t) (ap (λ (rs : List Request). accepted_visit (plan_of ws) (holding d cells rs) frame
        (snapshot_taken (plan_of ws) cells snapshot) out replies) (sym whole))
