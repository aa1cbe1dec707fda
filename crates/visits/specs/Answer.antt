-- What each answer to a visit says in the paper's numbers and values, and what an accepted visit leaves, in these terms.
use Rattle.std.specs.Prelude.{ℕ, ◌≡◌, List, Result, Ok, Err}
use Rattle.plan.specs.Plan.{Plan}
use Rattle.desk.specs.Holding.{Holding}
use Rattle.verdict.specs.Verdict.{question_of}
use Rattle.verdict.specs.declared.Refusal.{Refusal}
use Rattle.visits.specs.declared.answer.Forwarded.{Forwarded}
use Rattle.visits.specs.declared.answer.VisitResult.{VisitResult}
use Rattle.visits.specs.Visit as visiting

abbrev pub forwarding_of : Result Forwarded Refusal → visiting.Forwarding
forwarding_of (Ok f) = visiting.forwarded f.words f.replies
forwarding_of (Err r) = visiting.visit_refused (question_of r)

-- a visit's result with the store, the snapshot, the outgoing words and the reply words that it left
abbrev pub visited_of : VisitResult → List ℕ → List ℕ → List ℕ → List ℕ → visiting.Visited
visited_of r cells snapshot out replies =
    record { answer = forwarding_of r.answer; state = r.state; cells = cells; snapshot = snapshot; out = out; replies = replies }

-- what is left is an accepted visit's, whatever snapshot is left besides
abbrev pub LeavesAccepted : Plan → Holding → List ℕ → List ℕ → List ℕ → VisitResult → List ℕ → List ℕ → List ℕ → Type 0
LeavesAccepted p h frame out replies r cells' out' replies' =
    (taken : List ℕ) → visited_of r cells' taken out' replies' ≡ visiting.accepted_visit p h frame taken out replies
