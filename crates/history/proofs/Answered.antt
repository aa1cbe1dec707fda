-- Each waiting request is answered at its desk's next accepted visit.
--     request_waits              a request that is told to wait is the record at its place
--     place_its_own              and none that waited is moved there
--     waiting_moves              each waiting record waits at the place to which it was moved
--     places_keep_order          none overtakes another, and two stay two
--     answered_at_next_visit     and is answered there
-- Assumes nothing.
use Prim.Native.Nat.{ℕ, suc, ◌<◌, suc-le-suc}
use mathlib.Core.Path.{◌≡◌, refl, sym, ◌∙◌, ap}
use mathlib.Core.Bool.{Bool, true, false, ◌&&◌, cond, false≢true}
use mathlib.Core.List.{List, [], ◌∷◌}
use native.Mathlib.Omega.{arith}
use lib.Dec.{leb}
use borrow.Author.Tests.{leb-true, le-leb}
use Rattle.std.proofs.lemmas.Bool.{eq-eqb, ne_eqb}
use Rattle.lists.proofs.Laws.{by_same}
use Rattle.queue.specs.declared.record.Request.{Request}
use Rattle.requests.specs.Request.{is_waits, record_of, request_result}
use Rattle.history.specs.History.{Call, request, visit, Kept, step_at, holdings_after}
use Rattle.history.specs.Answering.{WaitsAt, RequestWaits, place_after, places_after, NoVisit, WaitingMoves, PlacesKeepOrder}
use Rattle.history.specs.Answering.{place_at, PlaceItsOwn, AnsweredAtNextVisit}
use Rattle.history.proofs.Joining.{request_joins, request_moves, visit_keeps}
use Rattle.history.proofs.AcceptedVisit.{visit_answers_waiting}

pub request_waits : RequestWaits
request_waits plan w p client k ps e = rw (eq-eqb p p refl) (request_joins plan (w p).holding (record_of client k ps) (ap is_waits e))

pub place_its_own : PlaceItsOwn
place_its_own plan h r e i f =
    go (leb (place_at plan h r) i) refl
    (sym (ap (λ (told : Bool). cond (told && leb (place_at plan h r) i) (suc i) i) (ap is_waits e)) ∙ f)
  where
    go : (b : Bool) → leb (place_at plan h r) i ≡ b → cond b (suc i) i ≡ place_at plan h r → ⊥
    go true l k = omega (arith, leb-true (place_at plan h r) i l, k)
    go false l k = false≢true (sym l ∙ le-leb (place_at plan h r) i (omega (arith, k)))

-- ---- one call

moves : (plan : List ℕ) (w : ℕ → Kept) (c : Call) (p i : ℕ) (r : Request) → NoVisit plan p w c → WaitsAt i r (w p).holding →
    WaitsAt (place_after plan p w c i) r (step_at plan w c p).holding
moves plan w (request q client k ps) p i r n m =
    by_same p q (λ e. rw (eq-eqb _ _ e) (request_moves plan (w q).holding (record_of client k ps) i r (rw e at m)))
    (λ e. rw (ne_eqb _ _ e) m)
moves plan w (visit q frame out replies) p i r n m =
    by_same p q (λ e. rw (eq-eqb _ _ e) (visit_keeps plan (w q).holding (w q).snapshot frame out replies i r (rw e at m) (n e)))
    (λ e. rw (ne_eqb _ _ e) m)

-- two that are moved up, each if its place is not before this one
up_in_order : (place i j : ℕ) (told : Bool) → i < j → cond (told && leb place i) (suc i) i < cond (told && leb place j) (suc j) j
up_in_order place i j false l = l
up_in_order place i j true l = go (leb place i) refl (leb place j) refl
  where
    go : (a : Bool) → leb place i ≡ a → (b : Bool) → leb place j ≡ b → cond a (suc i) i < cond b (suc j) j
    go true e true f = suc-le-suc l
    go true e false f = absurd (false≢true (sym f ∙ le-leb place j (omega (arith, leb-true place i e))))
    go false e true f = omega arith
    go false e false f = l

in_order : (plan : List ℕ) (w : ℕ → Kept) (c : Call) (p i j : ℕ) → i < j → place_after plan p w c i < place_after plan p w c j
in_order plan w (visit q frame out replies) p i j l = l
in_order plan w (request q client k ps) p i j l =
    let r : Request = record_of client k ps in
    by_same p q
    (λ e. rw (eq-eqb _ _ e)
    (up_in_order (place_at plan (w q).holding r) i j (is_waits (request_result plan (w q).holding r).answer) l))
    (λ e. rw (ne_eqb _ _ e) l)

-- ---- calls one after another

pub waiting_moves : WaitingMoves
waiting_moves plan p [] w n i r m = m
waiting_moves plan p (c ∷ cs) w n i r m =
    waiting_moves plan p cs (step_at plan w c) n.1 (place_after plan p w c i) r (moves plan w c p i r n.0 m)

pub places_keep_order : PlacesKeepOrder
places_keep_order plan p [] w i j l = l
places_keep_order plan p (c ∷ cs) w i j l =
    places_keep_order plan p cs (step_at plan w c) (place_after plan p w c i) (place_after plan p w c j) (in_order plan w c p i j l)

pub answered_at_next_visit : AnsweredAtNextVisit
answered_at_next_visit plan p cs w n i r m frame out replies words count e =
    let h : Kept = holdings_after plan w cs p in
    let k : ℕ = places_after plan p w cs i in
    let a = visit_answers_waiting plan h.holding h.snapshot frame out replies words count e in
    let b : WaitsAt k r h.holding = waiting_moves plan p cs w n i r m in (omega (arith, b.0, a.count_is), a.each k r b)
