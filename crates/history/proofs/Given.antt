-- The replies that the protocol sees a call give are those that stand in its answer and in its reply buffer.
-- Assumes nothing.
use Prim.Native.Nat.{ℕ, suc, ◌+◌, ◌-◌, ◌≤◌}
use mathlib.Core.Path.{◌≡◌, refl, sym, ◌∙◌, ap}
use mathlib.Core.List.{List, [], ◌∷◌, map}
use native.Mathlib.Nat.{add-zero}
use native.Mathlib.Omega.{arith}
use lib.ListN.{length, get_or}
use Rattle.verdict.specs.Verdict.{Verdict, accepted, refused}
use Rattle.lists.specs.Lists.{overwritten}
use Rattle.plan.specs.Decode.{plan_of}
use Rattle.plan.specs.Admission.{plan_verdict}
use Rattle.operation.specs.Operation.{Operation}
use Rattle.execution.specs.Run.{Reply}
use Rattle.conflict.specs.Class.{Class}
use Rattle.desk.specs.Holding.{Holding}
use Rattle.requests.specs.Request.{record_of, request_result}
use Rattle.requests.specs.Request as asked
use Rattle.visits.specs.Visit.{Visited, visited_by, visit_verdict, visit_result}
use Rattle.visits.specs.Waiting.{Answered, replies_words}
use Rattle.serial.specs.Desk as desk
use Rattle.serial.specs.Machine.{answers_seen}
use Rattle.history.specs.History.{Call, request, visit, Kept, step_at, outcomes}
use Rattle.history.specs.SerialRun.{Classifies}
use Rattle.history.specs.Claim.{replies_in, PutsOut, EachGives}
use Rattle.history.proofs.Protocol.{Sizes}
use Rattle.history.proofs.Seen.{answered_seen}
use Rattle.history.proofs.View.{response_seen, forwarding_seen, replies_run}
use Rattle.history.proofs.Machine.{machine}

-- ---- a reply with its client's word, both ways

abbrev unseen : ℕ × Reply → Answered
unseen a = record { client = a.0; reply = a.1 }

unseen_seen : (rs : List Answered) → map unseen (map answered_seen rs) ≡ rs
unseen_seen [] = refl
unseen_seen (r ∷ rs) = ap (λ (l : List Answered). r ∷ l) (unseen_seen rs)

seen_once : (rs ts : List Answered) → map answered_seen rs ≡ map answered_seen ts → rs ≡ ts
seen_once rs ts e = sym (unseen_seen rs) ∙ ap (map unseen) e ∙ unseen_seen ts

-- ---- one call

response_given : (client : ℕ) (a : asked.Response) → desk.given (response_seen client a) ≡ map answered_seen (replies_in client a)
response_given client (asked.replied r) = refl
response_given client asked.waits = refl
response_given client (asked.redirected d) = refl
response_given client (asked.request_refused question) = refl

module _ (ws : List ℕ) (h : Holding) (p : ℕ) (snapshot ft out replies : List ℕ) where
  abbrev rs : List Answered
  rs = replies_run ws h (visit p ft out replies)

  abbrev by : Verdict → Visited
  by v = visited_by (plan_of ws) h ft snapshot out replies v

  put_by : (v : Verdict) (ts : List Answered) → desk.given (forwarding_seen (by v).answer (by v).out rs) ≡ map answered_seen ts →
      PutsOut (by v).answer replies (by v).replies ts
  put_by accepted ts e =
      let s : rs ≡ ts = seen_once rs ts e in
      (ap length s, ap (λ (l : List Answered). overwritten (replies_words l) replies) s)
  put_by (refused q) ts e = (sym (seen_once [] ts e), refl)

  pub visit_puts : (ts : List Answered) →
      let v = visit_result ws h snapshot ft out replies in
      desk.given (forwarding_seen v.answer v.out rs) ≡ map answered_seen ts → PutsOut v.answer replies v.replies ts
  unfolding visit_result
  visit_puts ts e = put_by (visit_verdict ws h snapshot ft out replies) ts e

-- ---- every call

module _ (ws : List ℕ) (accept : plan_verdict ws ≡ accepted) (class : Operation → Class) (right : Classifies (plan_of ws) class)
    (sizes : Sizes) (replies : ℕ → List Answered) where
  abbrev pub Match : ℕ → List Call → (ℕ → Kept) → Type 0
  Match i cs w =
      (j : ℕ) → get_or (map desk.given (answers_seen (machine ws accept class right sizes) w cs)) j [] ≡ map answered_seen (replies (i + j))

  first : (i : ℕ) (a : desk.Answer Reply) → desk.given a ≡ map answered_seen (replies (i + 0)) → desk.given a ≡ map answered_seen
      (replies i)
  first i a e = e ∙ ap (λ (k : ℕ). map answered_seen (replies k)) (add-zero i)

  later : (i j : ℕ) → map answered_seen (replies (i + suc j)) ≡ map answered_seen (replies (suc i + j))
  later i j = ap (λ (k : ℕ). map answered_seen (replies k)) (omega arith)

  pub each_gives : (cs : List Call) (w : ℕ → Kept) (i : ℕ) → Match i cs w → EachGives replies i cs (outcomes ws w cs)
  each_gives [] w i m = tt
  each_gives (request p client k ps ∷ cs) w i m =
      let a = (request_result ws (w p).holding (record_of client k ps)).answer in (
        seen_once (replies_in client a) (replies i) (sym (response_given client a) ∙ first i (response_seen client a) (m 0)),
        each_gives cs (step_at ws w (request p client k ps)) (suc i) (λ j. m (suc j) ∙ later i j),
      )
  each_gives (visit p ft out buffer ∷ cs) w i m =
      let v = visit_result ws (w p).holding (w p).snapshot ft out buffer in (
        visit_puts ws (w p).holding p (w p).snapshot ft out buffer (replies i)
            (first i (forwarding_seen v.answer v.out (replies_run ws (w p).holding (visit p ft out buffer))) (m 0)),
        each_gives cs (step_at ws w (visit p ft out buffer)) (suc i) (λ j. m (suc j) ∙ later i j),
      )

  -- past the last call nothing is given, so nothing is due
  pub none_past : (cs : List Call) (w : ℕ → Kept) (i : ℕ) → Match i cs w → (j : ℕ) → i + length cs ≤ j → replies j ≡ []
  none_past [] w i m j l =
      seen_once (replies j) [] (ap (λ (k : ℕ). map answered_seen (replies k)) (omega arith) ∙ sym (m (j - i)))
  none_past (request p client k ps ∷ cs) w i m j l =
      none_past cs (step_at ws w (request p client k ps)) (suc i) (λ j. m (suc j) ∙ later i j) j (omega arith)
  none_past (visit p ft out buffer ∷ cs) w i m j l =
      none_past cs (step_at ws w (visit p ft out buffer)) (suc i) (λ j. m (suc j) ∙ later i j) j (omega arith)
