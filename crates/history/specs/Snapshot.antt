-- 02, A.4: "Prove, for histories like the one in the third demand, that each such cell shows no global at all, or the globals up to a visit
-- whose globals every desk has already applied or run." The cells are those that two or more desks may touch. Bulletin: here snapshot.
--     through_global, store_through                    the serial order cut behind a global, and the store that it leaves
--     behind_call, globals_behind, globals_of          how many globals the first accepted visits finished
--     visits_shown                                     how many accepted visits a desk's snapshot shows
--     Shows                                            that it shows them, and that every desk has applied or run their globals
--     refusals_in, serial_in, ShowsIn, opened_with     the same of a history at its end, and how it begins
--     SnapshotShows, SnapshotShowsLatest               the theorem, and its sharp form, which names the visits
--     StoreThroughHeard                                each desk's own store shows just the globals that it has heard
--     VisitsCounted                                    the two lists of accepted visits have one length
-- What one visit does to a snapshot is beside it, in SnapshotTaking.
use Rattle.std.specs.Prelude.{ℕ, suc, ◌-◌, ◌≤◌, ◌<◌, ◌≡◌, Bool, true, false, cond, List, [], ◌∷◌, ◌++◌, map, eqb, length, get_or}
use Rattle.verdict.specs.Verdict.{accepted}
use Rattle.plan.specs.Plan.{Plan}
use Rattle.plan.specs.Decode.{plan_of}
use Rattle.plan.specs.Admission.{plan_verdict}
use Rattle.operation.specs.Operation.{Operation}
use Rattle.operation.specs.Store.{Store}
use Rattle.conflict.specs.Class.{Class}
use Rattle.conflict.specs.Shared.{Shared}
use Rattle.queue.specs.declared.record.Request.{Request}
use Rattle.history.specs.History.{Call, request, visit, is_refused, Kept, outcomes, holdings_after, start, ProperFromStart}
use Rattle.history.specs.Order.{global_run, Finished, before}
use Rattle.history.specs.SerialRun.{Classifies, Serial, new_serial, note, serial, order, store_after}
use Rattle.history.specs.VisitNumbers.{accepted_visits}

-- ---- the serial run, cut

-- the serial order up to and with its m-th global, the local and free runs before that included; for m = 0 nothing
abbrev pub through_global : ℕ → List Finished → List Finished
through_global m [] = []
through_global m (e ∷ es) = cond (before (global_run m) e.slot) [] (e ∷ through_global m es)

-- the store that it leaves, from the starting one
abbrev pub store_through : Plan → Store → Serial → ℕ → Store
store_through p b s m = store_after p (through_global m (order s)) b

-- ---- the globals of the first accepted visits

-- behind a call, if it is an accepted visit: s is the serial run then
abbrev pub behind_call : Bool → Call → Serial → List ℕ
behind_call true c s = []
behind_call false (request d client k ps) s = []
behind_call false (visit d frame out replies) s = length s.globals ∷ []

module _ (p : Plan) (class : Operation → Class) where
  -- how many globals there are behind each accepted visit, in the order of the list
  abbrev pub globals_behind : Serial → List Call → List Bool → List ℕ
  globals_behind s [] refusals = []
  globals_behind s (c ∷ cs) [] = []
  globals_behind s (c ∷ cs) (r ∷ refusals) = behind_call r c (note p class r s c) ++ globals_behind (note p class r s c) cs refusals

-- how many the first k accepted visits finished: none for k = 0. The abstract layer has the same of its own
abbrev pub globals_of : List ℕ → ℕ → ℕ
globals_of counts k = get_or (0 ∷ counts) k 0

-- ---- what a snapshot shows

-- with n desks, of desk d: v + 1 - n visits, or none if that is less, v being the number of its latest accepted visit; if it had none, k.
-- The list has the desk and the number of each.
abbrev pub visits_shown : ℕ → ℕ → ℕ → List (ℕ × ℕ) → ℕ
visits_shown n d k [] = k
visits_shown n d k (v ∷ vs) = visits_shown n d (cond (eqb d v.0) (suc v.1 - n) k) vs

-- b the starting cells, s the serial run at the end, counts the globals behind each accepted visit: a snapshot shows the first k visits
pub record Shows (p : Plan) (b : Store) (s : Serial) (counts : List ℕ) (k : ℕ) (snapshot : List ℕ) : Type 0 where
  pub within : k ≤ length counts
  -- "shows .. the globals up to a visit": one k for all cells
  pub cells : (c : ℕ) → Shared p c → get_or snapshot c 0 ≡ get_or (store_through p b s (globals_of counts k)) c 0
  -- "whose globals every desk has already applied or run"
  pub heard : (q : ℕ) → q < p.desks → globals_of counts k ≤ s.heard q

-- ---- a history, at its end

module _ (plan : List ℕ) (w : ℕ → Kept) (cs : List Call) where
  abbrev pub refusals_in : List Bool
  refusals_in = map is_refused (outcomes plan w cs)

  module _ (class : Operation → Class) where
    abbrev pub serial_in : Serial
    serial_in = serial (plan_of plan) class cs refusals_in

    -- of desk d, whose snapshot is the one at the end
    abbrev pub ShowsIn : List ℕ → ℕ → ℕ → Type 0
    ShowsIn cells d k =
        Shows (plan_of plan) cells serial_in (globals_behind (plan_of plan) class new_serial cs refusals_in) k
        (holdings_after plan w cs d).snapshot

-- the desks at the start, each with a snapshot "which its caller makes equal to the starting book at first"
abbrev pub opened_with : List ℕ → (ℕ → List Request) → ℕ → Kept
opened_with cells rows = start cells rows (λ (p : ℕ). cells)

-- the sharp form: k is reckoned from the accepted visits
abbrev pub SnapshotShowsLatest : Type 0
SnapshotShowsLatest =
    (plan : List ℕ) → plan_verdict plan ≡ accepted → (class : Operation → Class) → Classifies (plan_of plan) class
    → (cells : List ℕ) (rows : ℕ → List Request) (cs : List Call) → ProperFromStart plan cells rows (λ (p : ℕ). cells) cs
    → (d : ℕ) → d < (plan_of plan).desks
    → ShowsIn plan (opened_with cells rows) cs class cells d
    (visits_shown (plan_of plan).desks d 0 (accepted_visits cs (refusals_in plan (opened_with cells rows) cs)))

-- "no global at all, or the globals up to a visit whose globals every desk has already applied or run"
abbrev pub SnapshotShows : Type 0
SnapshotShows =
    (plan : List ℕ) → plan_verdict plan ≡ accepted → (class : Operation → Class) → Classifies (plan_of plan) class
    → (cells : List ℕ) (rows : ℕ → List Request) (cs : List Call) → ProperFromStart plan cells rows (λ (p : ℕ). cells) cs
    → (d : ℕ) → d < (plan_of plan).desks → (k : ℕ) × ShowsIn plan (opened_with cells rows) cs class cells d k

-- and what it means that a desk has applied or run the first g globals: its own store is the serial one cut behind the g-th
abbrev pub StoreThroughHeard : Type 0
StoreThroughHeard =
    (plan : List ℕ) → plan_verdict plan ≡ accepted → (class : Operation → Class) → Classifies (plan_of plan) class
    → (cells : List ℕ) (rows : ℕ → List Request) (snapshots : ℕ → List ℕ) (cs : List Call) → ProperFromStart plan cells rows snapshots cs
    → (q : ℕ) → q < (plan_of plan).desks → (c : ℕ) → Shared (plan_of plan) c
    → let w = start cells rows snapshots in
    let s = serial_in plan w cs class in
    get_or (holdings_after plan w cs q).holding.cells c 0 ≡ get_or (store_through (plan_of plan) cells s (s.heard q)) c 0

-- the two lists of accepted visits, of their numbers and of the globals behind them, have one length
abbrev pub VisitsCounted : Type 0
VisitsCounted =
    (p : Plan) (class : Operation → Class) (s : Serial) (cs : List Call) (refusals : List Bool)
    → length (accepted_visits cs refusals) ≡ length (globals_behind p class s cs refusals)
