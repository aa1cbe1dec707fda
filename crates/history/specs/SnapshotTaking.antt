-- 02, A.4, of one visit and of any calls: what they do to a snapshot (02: bulletin), and what is asked of it.
--     VisitTakes, RefusedKeeps             an accepted visit, and a refused one
--     OtherSizesRefused, OnlySizeAsked     the size is asked, and nothing else
--     PlanAskedFirst                       the plan is asked before
--     OtherCellsStay, OneDeskStays         what any calls leave as it was
use Rattle.std.specs.Prelude.{ℕ, ◌≡◌, List, length, get_or}
use Rattle.verdict.specs.Verdict.{accepted, refused}
use Rattle.plan.specs.Decode.{plan_of}
use Rattle.plan.specs.Admission.{plan_verdict}
use Rattle.conflict.specs.Shared.{Shared}
use Rattle.desk.specs.Holding.{Holding}
use Rattle.visits.specs.Visit.{forwarded, visit_refused, visit_result}
use Rattle.history.specs.History.{Call, Kept, holdings_after}

-- ---- one visit, at a desk that holds h

-- "An accepted visit sets each bulletin cell that two or more desks may touch to what the desk's book held before the visit"
abbrev pub VisitTakes : Type 0
VisitTakes =
    (plan : List ℕ) (h : Holding) (snapshot frame out replies : List ℕ) (words count : ℕ)
    → (visit_result plan h snapshot frame out replies).answer ≡ forwarded words count → (c : ℕ) → Shared (plan_of plan) c
    → get_or (visit_result plan h snapshot frame out replies).snapshot c 0 ≡ get_or h.cells c 0

-- "nothing lent and no state changes"
abbrev pub RefusedKeeps : Type 0
RefusedKeeps =
    (plan : List ℕ) (h : Holding) (snapshot frame out replies : List ℕ) (question : ℕ)
    → (visit_result plan h snapshot frame out replies).answer ≡ visit_refused question
    → (visit_result plan h snapshot frame out replies).snapshot ≡ snapshot

-- "It refuses with 5 a bulletin that isn't exactly 1,024 words."
abbrev pub OtherSizesRefused : Type 0
OtherSizesRefused =
    (plan : List ℕ) (h : Holding) (snapshot frame out replies : List ℕ) → plan_verdict plan ≡ accepted
    → (length snapshot ≡ 1024 → ⊥) → (visit_result plan h snapshot frame out replies).answer ≡ visit_refused 5

-- of the snapshot a visit asks the size alone: with another of as many words all else that it leaves is the same
abbrev pub OnlySizeAsked : Type 0
OnlySizeAsked =
    (plan : List ℕ) (h : Holding) (snapshot snapshot' frame out replies : List ℕ) → length snapshot ≡ length snapshot'
    → let v = visit_result plan h snapshot frame out replies in
    let v' = visit_result plan h snapshot' frame out replies in
    v' ≡ record { answer = v.answer; state = v.state; cells = v.cells; snapshot = v'.snapshot; out = v.out; replies = v.replies }

-- "Visit: 1–6, 10–15.", with 17 after 4: a plan that is refused is refused before
abbrev pub PlanAskedFirst : Type 0
PlanAskedFirst =
    (plan : List ℕ) (h : Holding) (snapshot frame out replies : List ℕ) (question : ℕ) → plan_verdict plan ≡ refused question
    → (visit_result plan h snapshot frame out replies).answer ≡ visit_refused question

-- ---- any calls at all

-- "other bulletin cells never change"
abbrev pub OtherCellsStay : Type 0
OtherCellsStay =
    (plan : List ℕ) (cs : List Call) (w : ℕ → Kept) (d c : ℕ) → (Shared (plan_of plan) c → ⊥)
    → get_or (holdings_after plan w cs d).snapshot c 0 ≡ get_or (w d).snapshot c 0

-- with one desk no cell changes, ever
abbrev pub OneDeskStays : Type 0
OneDeskStays =
    (plan : List ℕ) (cs : List Call) (w : ℕ → Kept) (d : ℕ) → (plan_of plan).desks ≡ 1
    → (holdings_after plan w cs d).snapshot ≡ (w d).snapshot
