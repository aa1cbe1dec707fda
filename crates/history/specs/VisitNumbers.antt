-- "Visit v belongs to desk v modulo n": the accepted visits of a history are the visits 0, 1, 2, .. in the order of the list.
use Rattle.std.specs.Prelude.{ℕ, ◌%◌, ◌<◌, ◌≡◌, Bool, true, false, List, [], ◌∷◌, ◌++◌, map, length, get_or}
use Rattle.verdict.specs.Verdict.{accepted}
use Rattle.plan.specs.Decode.{plan_of}
use Rattle.plan.specs.Admission.{plan_verdict}
use Rattle.frame.specs.Admission.{frame_visit}
use Rattle.queue.specs.declared.record.Request.{Request}
use Rattle.history.specs.History.{Call, request, visit, is_refused, outcomes, start, ProperFromStart}

-- a visit's desk, and the visit number of its frame
abbrev pub visit_by : Call → List (ℕ × ℕ)
visit_by (request p client k ps) = []
visit_by (visit p frame out replies) = (p, frame_visit frame) ∷ []

-- those of the accepted visits
abbrev pub accepted_visits : List Call → List Bool → List (ℕ × ℕ)
accepted_visits [] refusals = []
accepted_visits (c ∷ cs) [] = []
accepted_visits (c ∷ cs) (true ∷ refusals) = accepted_visits cs refusals
accepted_visits (c ∷ cs) (false ∷ refusals) = visit_by c ++ accepted_visits cs refusals

abbrev pub VisitsNumbered : Type 0
VisitsNumbered =
    (plan : List ℕ) → plan_verdict plan ≡ accepted → (cells : List ℕ) (rows : ℕ → List Request) (snapshots : ℕ → List ℕ) (cs : List Call)
    → ProperFromStart plan cells rows snapshots cs
    → let vs = accepted_visits cs (map is_refused (outcomes plan (start cells rows snapshots) cs)) in
    (v : ℕ) → v < length vs → get_or vs v (0, 0) ≡ (v % (plan_of plan).desks, v)
