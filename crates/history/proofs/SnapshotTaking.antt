-- What visits do to a snapshot and ask of it, proved: from the cells that one visit leaves, and call by call.
-- Assumes nothing.
use Prim.Native.Nat.{ℕ}
use mathlib.Core.Path.{◌≡◌, refl, ◌∙◌, ap}
use mathlib.Core.Bool.{and-false}
use mathlib.Core.List.{List, [], ◌∷◌}
use lib.ListN.{length, get_or}
use borrow.Author.Tests.{ne_eqb}
use Rattle.verdict.specs.Verdict.{Verdict, accepted, refused}
use Rattle.std.proofs.lemmas.Bool.{eq-eqb}
use Rattle.lists.proofs.Laws.{by_same}
use Rattle.plan.specs.Decode.{plan_of}
use Rattle.conflict.specs.Shared.{Shared}
use Rattle.desk.specs.Holding.{Holding}
use Rattle.desk.specs.Admission.{desk_buffers_fit}
use Rattle.visits.specs.Admission.{visit_buffers_fit}
use Rattle.visits.specs.Visit.{visited_by, visit_verdict, visit_result}
use Rattle.history.specs.History.{Call, request, visit, is_refused_forwarding, Kept, step_at}
use Rattle.history.specs.SnapshotTaking.{VisitTakes, RefusedKeeps, OtherSizesRefused, OnlySizeAsked, PlanAskedFirst}
use Rattle.history.specs.SnapshotTaking.{OtherCellsStay, OneDeskStays}
use Rattle.history.proofs.SnapshotCells.{refused_left, shared_left, other_left, one_desk_left}

-- ---- one visit

pub visit_takes : VisitTakes
visit_takes plan h snapshot frame out replies words count e =
    shared_left plan h snapshot frame out replies (ap is_refused_forwarding e)

pub refused_keeps : RefusedKeeps
refused_keeps plan h snapshot frame out replies question e = refused_left plan h snapshot frame out replies (ap is_refused_forwarding e)

pub other_sizes_refused : OtherSizesRefused
unfolding visit_result visit_verdict visit_buffers_fit
other_sizes_refused plan h snapshot frame out replies accept ne =
    rw (accept, ne_eqb (length snapshot) 1024 ne, and-false (desk_buffers_fit h.cells h.queue)) refl

same_verdict : (plan : List ℕ) (h : Holding) (snapshot snapshot' frame out replies : List ℕ) → length snapshot ≡ length snapshot'
    → visit_verdict plan h snapshot' frame out replies ≡ visit_verdict plan h snapshot frame out replies
unfolding visit_verdict visit_buffers_fit
same_verdict plan h snapshot snapshot' frame out replies e = rw e refl

by_same_verdict : (plan : List ℕ) (h : Holding) (snapshot snapshot' frame out replies : List ℕ) (a : Verdict)
    → let v = visited_by (plan_of plan) h frame snapshot out replies a in
    let v' = visited_by (plan_of plan) h frame snapshot' out replies a in
    v' ≡ record { answer = v.answer; state = v.state; cells = v.cells; snapshot = v'.snapshot; out = v.out; replies = v.replies }
by_same_verdict plan h snapshot snapshot' frame out replies accepted = refl
by_same_verdict plan h snapshot snapshot' frame out replies (refused q) = refl

pub only_size_asked : OnlySizeAsked
unfolding visit_result
only_size_asked plan h snapshot snapshot' frame out replies e =
    rw (same_verdict plan h snapshot snapshot' frame out replies e)
    (by_same_verdict plan h snapshot snapshot' frame out replies (visit_verdict plan h snapshot frame out replies))

pub plan_asked_first : PlanAskedFirst
unfolding visit_result visit_verdict
plan_asked_first plan h snapshot frame out replies question e = rw e refl

-- ---- any calls at all

other_step : (plan : List ℕ) (w : ℕ → Kept) (c : Call) (d x : ℕ) → (Shared (plan_of plan) x → ⊥) →
    get_or (step_at plan w c d).snapshot x 0 ≡ get_or (w d).snapshot x 0
other_step plan w (request q client k ps) d x f = by_same d q (λ e. rw (eq-eqb _ _ e) (rw e refl)) (λ e. rw (ne_eqb _ _ e) refl)
other_step plan w (visit q frame out replies) d x f =
    by_same d q (λ e. rw (eq-eqb _ _ e) (rw e (other_left plan (w q).holding (w q).snapshot frame out replies x f)))
    (λ e. rw (ne_eqb _ _ e) refl)

pub other_cells_stay : OtherCellsStay
other_cells_stay plan [] w d x f = refl
other_cells_stay plan (c ∷ cs) w d x f = other_cells_stay plan cs (step_at plan w c) d x f ∙ other_step plan w c d x f

one_desk_step : (plan : List ℕ) (w : ℕ → Kept) (c : Call) (d : ℕ) → (plan_of plan).desks ≡ 1 → (step_at plan w c d).snapshot ≡
    (w d).snapshot
one_desk_step plan w (request q client k ps) d one = by_same d q (λ e. rw (eq-eqb _ _ e) (rw e refl)) (λ e. rw (ne_eqb _ _ e) refl)
one_desk_step plan w (visit q frame out replies) d one =
    by_same d q (λ e. rw (eq-eqb _ _ e) (rw e (one_desk_left plan (w q).holding (w q).snapshot frame out replies one)))
    (λ e. rw (ne_eqb _ _ e) refl)

pub one_desk_stays : OneDeskStays
one_desk_stays plan [] w d one = refl
one_desk_stays plan (c ∷ cs) w d one = one_desk_stays plan cs (step_at plan w c) d one ∙ one_desk_step plan w c d one
