-- Questions 1 to 8 of a queue of words, as the core of a request puts them.
--     by_store, by_row, row_long        question 5, by the numbers of words; it shows that those of the row are 192
--     plan_refused                      the verdict of all, where one of 1 to 4 and 17 is answered with no
--     opened_refused, opened_passes     the verdict of all, by that of questions 1 to 6 and 17
-- Assumes nothing.
use mathlib.Core.Path.{◌≡◌, refl, ◌∙◌, sym, ap}
use mathlib.Core.Bool.{Bool, true, false, cond}
use mathlib.Core.List.{List, []}
use Prim.Native.Nat.{ℕ}
use lib.Dec.{eqb}
use lib.ListN.{length}
use borrow.Author.Tests.{eqb-true, eq-eqb, ne_eqb}
use Rattle.verdict.specs.Verdict.{Verdict, accepted, refused, ask, ◌then◌}
use Rattle.verdict.proofs.Verdicts.{then_accepted, ask_accepted, then_associates}
use Rattle.lists.proofs.Laws.{and_snd, length_tabulate}
use Rattle.plan.specs.Decode.{plan_of}
use Rattle.plan.specs.Admission.{plan_verdict}
use Rattle.operation.specs.Admission.{operation_verdict}
use Rattle.queue.specs.declared.record.Request.{Request}
use Rattle.queue.specs.Words.{record_in, records_in, queue_in}
use Rattle.queue.proofs.Rows.{queue_in_row}
use Rattle.desk.specs.declared.state.Desk.{Desk}
use Rattle.desk.specs.Holding.{holding}
use Rattle.desk.specs.Queueing.{operation_of}
use Rattle.desk.specs.Admission.{desk_buffers_fit, desk_fits}
use Rattle.requests.specs.Request.{request_verdict}
use Rattle.requests.specs.Step.{opening_verdict}

-- ---- question 5, by the numbers of words

module _ (cells row : List ℕ) where
  long_by_row : eqb (length row) 192 ≡ eqb (length (queue_in row)) 32
  unfolding queue_in
  long_by_row = go (eqb (length row) 192)
    where
      go : (b : Bool) → b ≡ eqb (length (cond b (records_in row) [])) 32
      go true = sym (ap (λ (n : ℕ). eqb n 32) (length_tabulate 32 (record_in row)))
      go false = refl

  pub by_store : (length cells ≡ 1024 → ⊥) → eqb (length cells) 1024 ≡ desk_buffers_fit cells (queue_in row)
  unfolding desk_buffers_fit
  by_store n = rw (ne_eqb _ _ n)

  pub by_row : length cells ≡ 1024 → eqb (length row) 192 ≡ desk_buffers_fit cells (queue_in row)
  unfolding desk_buffers_fit
  by_row e = rw (eq-eqb _ _ e, long_by_row)

  pub row_long : desk_buffers_fit cells (queue_in row) ≡ true → length row ≡ 192
  unfolding desk_buffers_fit
  row_long e = eqb-true (length row) 192 (long_by_row ∙ and_snd (eqb (length cells) 1024) _ e)

-- ---- all of them

module _ (ws : List ℕ) (d : Desk) (cells row : List ℕ) where
  -- questions 1 to 6 and 17
  abbrev opened : Verdict
  opened = opening_verdict ws cells row then ask 6 (desk_fits (plan_of ws) d (records_in row))

  opening_long : opening_verdict ws cells row ≡ accepted → length row ≡ 192
  unfolding opening_verdict
  opening_long e = row_long cells row (ask_accepted 5 _ (then_accepted (plan_verdict ws) _ e).1)

  module _ (r : Request) where
    rest : List Request → Verdict
    rest queue = ask 6 (desk_fits (plan_of ws) d queue) then operation_verdict (plan_of ws) (operation_of r)

    -- question 6 of the queue is that of the words' records, where question 5 is answered with yes
    by_opening : (v : Verdict) → opening_verdict ws cells row ≡ v → (v then rest (queue_in row))
        ≡ ((v then ask 6 (desk_fits (plan_of ws) d (records_in row))) then operation_verdict (plan_of ws) (operation_of r))
    unfolding rest
    by_opening accepted e = ap rest (queue_in_row row (opening_long e))
    by_opening (refused question) e = refl

    handed : request_verdict ws (holding d cells (queue_in row)) r ≡ (opened then operation_verdict (plan_of ws) (operation_of r))
    unfolding request_verdict opening_verdict rest
    handed = then_associates (plan_verdict ws) _ (rest (queue_in row)) ∙ by_opening (opening_verdict ws cells row) refl

    pub plan_refused : (question : ℕ) → refused question ≡ plan_verdict ws
        → request_verdict ws (holding d cells (queue_in row)) r ≡ refused question
    unfolding request_verdict
    plan_refused question e = rw (← e)

    pub opened_refused : (question : ℕ) → refused question ≡ opened
        → request_verdict ws (holding d cells (queue_in row)) r ≡ refused question
    opened_refused question e = handed ∙ rw (← e)

    pub opened_passes : accepted ≡ opened
        → request_verdict ws (holding d cells (queue_in row)) r ≡ operation_verdict (plan_of ws) (operation_of r)
    opened_passes e = handed ∙ rw (← e)
