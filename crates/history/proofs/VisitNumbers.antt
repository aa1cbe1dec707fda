-- The accepted visits of a proper history are the visits 0, 1, 2, .. of the protocol.
-- Assumes nothing.
use Prim.Native.Nat.{ℕ, ◌%◌, ◌<◌}
use mathlib.Core.Path.{◌≡◌, refl, ◌∙◌, ap, ap₂, subst}
use mathlib.Core.Bool.{Bool, true, false, cond}
use mathlib.Core.List.{List, [], ◌∷◌, ◌++◌, map}
use lib.ListN.{length, get_or, length-map, get_or-map}
use Rattle.verdict.specs.Verdict.{accepted}
use Rattle.plan.specs.Decode.{plan_of}
use Rattle.plan.specs.Admission.{plan_verdict}
use Rattle.operation.specs.Operation.{Operation}
use Rattle.conflict.specs.Class.{Class, class_of}
use Rattle.frame.specs.Admission.{frame_visit}
use Rattle.queue.specs.declared.record.Request.{Request}
use Rattle.serial.specs.System.{System}
use Rattle.serial.specs.History.{new_desks, answer_at, step_at, answers}
use Rattle.serial.specs.Visits.{Visit, visit_of, visits}
use Rattle.serial.specs.AtEnd.{visits_of}
use Rattle.history.specs.History.{Call, request, visit, is_refused, outcomes, start, ProperFromStart}
use Rattle.history.specs.SerialRun.{Classifies}
use Rattle.history.specs.VisitNumbers.{accepted_visits, VisitsNumbered}
use Rattle.history.proofs.Protocol.{Sizes, system}
use Rattle.history.proofs.ProtocolLaws.{laws}
use Rattle.history.proofs.View.{call_seen}
use Rattle.history.proofs.Claim.{proper_seen, refusals_seen}
use Rattle.history.proofs.Start.{computed_classifies}
use Rattle.serial.specs.Desk as desk
use Rattle.serial.proofs.TokenTheorems as token

abbrev shown : Visit → ℕ × ℕ
shown v = (v.desk, v.number)

module _ (ws : List ℕ) (class : Operation → Class) (sizes : Sizes) where
  abbrev S : System
  S = system ws class sizes

  -- one call more in front
  one_more : (b : Bool) (d : desk.Desk Operation) (c : Call) (cs : List Call) (vs : List Visit) (bs : List Bool) →
      map shown vs ≡ accepted_visits cs bs → map shown (cond b [] (visit_of S d (call_seen c)) ++ vs) ≡ accepted_visits (c ∷ cs) (b ∷ bs)
  one_more true d c cs vs bs h = h
  one_more false d (request p client k ps) cs vs bs h = h
  one_more false d (visit p frame out replies) cs vs bs h = ap (λ (l : List (ℕ × ℕ)). (p, frame_visit frame) ∷ l) h

  visits_seen : (cs : List Call) (w : ℕ → desk.Desk Operation) → map shown (visits S w (map call_seen cs))
      ≡ accepted_visits cs (map desk.is_refused (answers S w (map call_seen cs)))
  visits_seen [] w = refl
  visits_seen (c ∷ cs) w =
      one_more (desk.is_refused (answer_at S w (call_seen c))) (w (desk.desk_called (call_seen c))) c cs _ _
      (visits_seen cs (step_at S w (call_seen c)))

module _ (ws : List ℕ) (accept : plan_verdict ws ≡ accepted) (cells : List ℕ) (rows : ℕ → List Request)
    (snapshots : ℕ → List ℕ) (cs : List Call) (pr : ProperFromStart ws cells rows snapshots cs) where
  abbrev class : Operation → Class
  class = class_of (plan_of ws)

  abbrev right : Classifies (plan_of ws) class
  right = computed_classifies ws accept

  abbrev sizes : Sizes
  sizes = record { records = λ q. length (rows q); words = λ q. length (snapshots q) }

  abbrev vs : List Visit
  vs = visits_of (system ws class sizes) cells (map call_seen cs)

  visits_are : map shown vs ≡ accepted_visits cs (map is_refused (outcomes ws (start cells rows snapshots) cs))
  visits_are =
      visits_seen ws class sizes cs (new_desks (system ws class sizes) cells)
      ∙ ap (accepted_visits cs) (refusals_seen ws accept class right cells rows snapshots cs pr)

  numbered : (v : ℕ) → v < length (map shown vs) → get_or (map shown vs) v (0, 0) ≡ (v % (plan_of ws).desks, v)
  numbered v l =
      let none : Visit = record { desk = 0; number = 0; updates = [] } in
      let e = token.visits_numbered (system ws class sizes) (laws ws accept class right sizes) cells (map call_seen cs)
      (proper_seen ws accept class right cells rows snapshots cs pr) v none (rw (length-map vs shown) at l) in
      get_or-map shown vs v none ∙ ap₂ (λ (d k : ℕ). (d, k)) e.desk_is e.number_is

-- the v-th accepted visit is visit v, at desk v modulo n
pub visits_numbered : VisitsNumbered
visits_numbered plan accept cells rows snapshots cs pr =
    subst (λ (l : List (ℕ × ℕ)). (v : ℕ) → v < length l → get_or l v (0, 0) ≡ (v % (plan_of plan).desks, v))
    (visits_are plan accept cells rows snapshots cs pr) (numbered plan accept cells rows snapshots cs pr)
