-- A request at the desk of those that wait, and a refused visit: where they stand then.
--     request_joins, request_moves      a request that is told to wait is the record at its place, and those from there on are moved up
--     visit_keeps                       a refused visit moves none
-- Assumes nothing.
use Prim.Native.Nat.{ℕ, suc, ◌+◌, ◌-◌, ◌≤◌, ◌<◌}
use mathlib.Core.Path.{◌≡◌, refl, sym, ◌∙◌, ap, subst}
use mathlib.Core.Bool.{Bool, true, false, ◌&&◌, cond, false≢true}
use mathlib.Core.List.{List, ◌∷◌}
use native.Mathlib.Nat.{add-zero}
use native.Mathlib.Omega.{arith}
use lib.Dec.{leb}
use lib.ListN.{length, get_or, take, drop, get_or-append}
use lib.Seq.{length-take-le, get_or-take, get_or-drop, get_or-append-add}
use borrow.Author.Tests.{le-leb, lt-leb}
use Rattle.verdict.specs.Verdict.{Verdict, accepted, refused}
use Rattle.std.specs.List.{insert}
use Rattle.lists.specs.Lists.{overwritten}
use Rattle.std.proofs.lemmas.List.Edits.{length-insert, get_or-insert_at, get_or-insert_above}
use Rattle.lists.proofs.Laws.{get_or_overwritten, by_less, get_or_insert_before}
use Rattle.plan.specs.Decode.{plan_of}
use Rattle.queue.specs.Queue.{no_request}
use Rattle.queue.specs.declared.record.Request.{Request}
use Rattle.desk.specs.Holding.{Holding, waiting_at}
use Rattle.desk.specs.Queueing.{is_urgent}
use Rattle.desk.proofs.Priority.{join_place_fits}
use Rattle.requests.specs.Request.{is_waits, Requested, request_result}
use Rattle.requests.proofs.Joining.{enqueued_moved}
use Rattle.requests.proofs.Stored.{Waits, waits_only, else_kept, waits_long, waits_ordered}
use Rattle.visits.specs.Visit.{visited_by, visit_verdict, visit_result}
use Rattle.history.specs.History.{requested, visited, is_refused_forwarding, holding_after}
use Rattle.history.specs.Answering.{WaitsAt, place_at, moved_by}

-- ---- a list with one element more at a place, over the front of another

module _ {A : Type 0} (xs : List A) (i : ℕ) (x : A) (o : List A) (d : A) (h : i ≤ length xs) where
  in_front : (j : ℕ) → j ≤ length xs → get_or (overwritten (insert xs i x) o) j d ≡ get_or (insert xs i x) j d
  in_front j k = get_or_overwritten (insert xs i x) o j d (omega (arith, length-insert xs i x h))

  at_place : get_or (overwritten (insert xs i x) o) i d ≡ x
  at_place = in_front i h ∙ get_or-insert_at xs i x d h

  past_place : (j : ℕ) → i ≤ j → j < length xs → get_or (overwritten (insert xs i x) o) (suc j) d ≡ get_or xs j d
  past_place j l k =
      in_front (suc j) (omega arith) ∙ ap (λ (n : ℕ). get_or (insert xs i x) n d) (omega arith) ∙ get_or-insert_above xs i x d j l h

module _ (plan : List ℕ) (h : Holding) where
  -- ---- a request

  module _ (r : Request) where
    abbrev left : Requested
    left = request_result plan h r

    abbrev after : Holding
    after = holding_after h (requested left)

    abbrev place : ℕ
    place = place_at plan h r

    module _ (e : is_waits left.answer ≡ true) where
      told : Waits (plan_of plan) h.state h.queue r left
      told = waits_only plan h.state h.cells h.queue r e

      count : length (waiting_at h) ≡ h.state.waiting
      count =
          length-take-le h.state.waiting h.queue
          (omega (arith, told.room, waits_long plan h.state h.cells h.queue r e))

      fits : place ≤ length (waiting_at h)
      fits = join_place_fits (is_urgent (plan_of plan)) (waiting_at h) r

      queue_is : left.queue ≡ overwritten (insert (waiting_at h) place r) h.queue
      queue_is = told.queue ∙ enqueued_moved h (plan_of plan) r (waits_ordered plan h.state h.cells h.queue r e)

      stands : (j : ℕ) (t : Request) → get_or (overwritten (insert (waiting_at h) place r) h.queue) j no_request ≡ t
          → j < h.state.waiting + 1 → WaitsAt j t after
      stands j t q l = (omega (arith, told.state), ap (λ (rs : List Request). get_or rs j no_request) queue_is ∙ q)

      pub request_joins : WaitsAt place r after
      request_joins = stands place r (at_place (waiting_at h) place r h.queue no_request fits) (omega (arith, fits, count))

      moves : (i : ℕ) (t : Request) → WaitsAt i t h → WaitsAt (cond (leb place i) (suc i) i) t after
      moves i t w =
          let here : get_or (waiting_at h) i no_request ≡ t = get_or-take h.state.waiting h.queue i no_request w.0 ∙ w.1 in
          by_less i place
          (λ l. subst (λ (b : Bool). WaitsAt (cond b (suc i) i) t after) (sym (lt-leb place i l))
          (stands i t (get_or_insert_before (waiting_at h) place h.queue r i no_request fits l ∙ here) (omega (arith, w.0))))
          (λ l. subst (λ (b : Bool). WaitsAt (cond b (suc i) i) t after) (sym (le-leb place i l))
          (stands (suc i) t (past_place (waiting_at h) place r h.queue no_request fits i l (omega (arith, w.0, count)) ∙ here)
          (omega (arith, w.0))))

    pub request_moves : (i : ℕ) (t : Request) → WaitsAt i t h → WaitsAt (moved_by plan h r i) t after
    request_moves i t w = by_answer (is_waits left.answer) refl
      where
        by_answer : (b : Bool) → is_waits left.answer ≡ b → WaitsAt (cond (b && leb place i) (suc i) i) t after
        by_answer true e = moves e i t w
        by_answer false e =
            let k = else_kept plan h.state h.cells h.queue r e in
            (rw k.state w.0, ap (λ (rs : List Request). get_or rs i no_request) k.queue ∙ w.1)

  -- ---- a refused visit

  module _ (snapshot frame out replies : List ℕ) (k : ℕ) (t : Request) (w : WaitsAt k t h) where
    by_keeps : (v : Verdict) → is_refused_forwarding (visited_by (plan_of plan) h frame snapshot out replies v).answer ≡ true →
        WaitsAt k t (holding_after h (visited (visited_by (plan_of plan) h frame snapshot out replies v)))
    by_keeps accepted e = absurd (false≢true e)
    by_keeps (refused q) e = w

    pub visit_keeps : is_refused_forwarding (visit_result plan h snapshot frame out replies).answer ≡ true →
        WaitsAt k t (holding_after h (visited (visit_result plan h snapshot frame out replies)))
    unfolding visit_result
    visit_keeps = by_keeps (visit_verdict plan h snapshot frame out replies)
