-- 02, A.4, proved: each desk's snapshot shows the globals up to a visit whose globals every desk has heard, each desk's own store those
-- that it has heard itself.
-- Assumes nothing.
use Prim.Native.Nat.{ℕ, suc, ◌<◌}
use mathlib.Core.Path.{◌≡◌, refl, sym, ◌∙◌, ap}
use mathlib.Core.Bool.{Bool, true, false, cond}
use mathlib.Core.List.{List, [], ◌∷◌, map}
use native.Mathlib.Omega.{arith}
use lib.ListN.{length, get_or}
use Rattle.verdict.specs.Verdict.{accepted}
use Rattle.plan.specs.Plan.{Plan}
use Rattle.plan.specs.Decode.{plan_of}
use Rattle.plan.specs.Admission.{plan_verdict}
use Rattle.operation.specs.Operation.{Operation}
use Rattle.operation.specs.Store.{Store}
use Rattle.conflict.specs.Class.{Class}
use Rattle.conflict.specs.Meaning.{Toucher}
use Rattle.conflict.specs.Shared.{Shared}
use Rattle.queue.specs.declared.record.Request.{Request}
use Rattle.serial.specs.System.{System, Touches}
use Rattle.serial.specs.SerialRun as run
use Rattle.serial.specs.Order as protocol_order
use Rattle.serial.specs.Snapshot.{Snapshots, new_snapshots, snapshots_of, Unowned, through}
use Rattle.serial.specs.Snapshot as protocol
use Rattle.serial.specs.AtEnd.{serial_of}
use Rattle.serial.specs.Machine.{Machine, Words}
use Rattle.serial.proofs.Bridge.{machine_called, machine_desks}
use Rattle.serial.proofs.Standing.{shared_hears}
use Rattle.serial.proofs.Snapshots.{snapshots_show, store_through_lem}
use Rattle.history.specs.History.{Call, request, visit, Kept, holdings_after, start, ProperFromStart}
use Rattle.history.specs.Order.{global_run, Finished, before}
use Rattle.history.specs.SerialRun.{Classifies, Serial, new_serial, note, serial, order}
use Rattle.history.specs.VisitNumbers.{accepted_visits}
use Rattle.history.specs.Snapshot.{through_global, store_through, globals_behind, globals_of, visits_shown, Shows, SnapshotShows}
use Rattle.history.specs.Snapshot.{SnapshotShowsLatest, StoreThroughHeard, VisitsCounted}
use Rattle.history.proofs.Protocol.{Sizes, system}
use Rattle.history.proofs.ProtocolLaws.{laws, of_touch}
use Rattle.history.proofs.View.{call_seen}
use Rattle.history.proofs.Machine.{machine, frames, after_is}
use Rattle.history.proofs.SerialSeen.{finished_seen, serial_seen, notes_seen}
use Rattle.history.proofs.Places.{before_is}
use Rattle.history.proofs.OrderSeen.{RunsAll, store_seen}
use Rattle.history.proofs.SnapshotsSeen.{logged, log_seen, logged_counts, logged_shown, logged_taken}
use Rattle.history.proofs.Claim.{refusals, all_sound, proper, proper_seen, refusals_seen, order_seen, runs}

-- ---- the serial order, cut

module _ (p : Plan) (m : ℕ) where
  cut_at : (b : Bool) (e : Finished) (es : List Finished) (ts : List (protocol_order.Finished Operation)) →
      map finished_seen (through_global m es) ≡ ts →
      map finished_seen (cond b [] (e ∷ through_global m es)) ≡ cond b [] (finished_seen e ∷ ts)
  cut_at true e es ts h = refl
  cut_at false e es ts h = ap (λ (l : List (protocol_order.Finished Operation)). finished_seen e ∷ l) h

  cut_seen : (es : List Finished) → RunsAll p es → map finished_seen (through_global m es)
      ≡ protocol_order.upto (protocol_order.place p.desks) (protocol_order.place_at p.desks m 0) (map finished_seen es)
  cut_seen [] h = refl
  cut_seen (e ∷ es) h =
      rw (before_is p.desks (global_run m) e.slot tt h.0.1) (cut_at (before (global_run m) e.slot) e es _ (cut_seen es h.1))

  cut_runs : (es : List Finished) → RunsAll p es → RunsAll p (through_global m es)
  cut_runs [] h = tt
  cut_runs (e ∷ es) h = go (before (global_run m) e.slot) (cut_runs es h.1)
    where
      go : (b : Bool) → RunsAll p (through_global m es) → RunsAll p (cond b [] (e ∷ through_global m es))
      go true k = tt
      go false k = (h.0, k)

-- ---- a history at its end

module _ (ws : List ℕ) (accept : plan_verdict ws ≡ accepted) (class : Operation → Class) (right : Classifies (plan_of ws) class)
    (cells : List ℕ) (rows : ℕ → List Request) (snapshots : ℕ → List ℕ) (cs : List Call) (pr : ProperFromStart ws cells rows snapshots cs)
  where
    abbrev p : Plan
    p = plan_of ws

    abbrev sizes : Sizes
    sizes = record { records = λ q. length (rows q); words = λ q. length (snapshots q) }

    abbrev S : System
    S = system ws class sizes

    abbrev M : Machine S
    M = machine ws accept class right sizes

    abbrev N : Words M
    N = frames ws accept class right sizes

    abbrev w : ℕ → Kept
    w = start cells rows snapshots

    abbrev rs : List Bool
    rs = refusals ws accept class right cells rows snapshots cs pr

    abbrev s : Serial
    s = serial p class cs rs

    serial_is : serial_of S cells (map call_seen cs) ≡ serial_seen s
    serial_is =
        ap (run.serial S (map call_seen cs)) (refusals_seen ws accept class right cells rows snapshots cs pr)
        ∙ sym (notes_seen ws class sizes cs rs new_serial)

    -- the protocol's serial store behind the m-th global is this one
    store_is : (m : ℕ) → run.store_after S (through S m (run.order S (serial_seen s))) cells ≡ store_through p cells s m
    store_is m =
        let h : RunsAll p (order s) = runs ws accept class right cells rows snapshots cs pr in
        ap (λ (es : List (protocol_order.Finished Operation)). run.store_after S (through S m es) cells)
        (ap (run.order S) (notes_seen ws class sizes cs rs new_serial) ∙ order_seen ws accept class right cells rows snapshots cs pr)
        ∙ ap (λ (es : List (protocol_order.Finished Operation)). run.store_after S es cells) (sym (cut_seen p m (order s) h))
        ∙ store_seen ws class sizes (through_global m (order s)) cells (cut_runs p m (order s) h)

    -- no local operation may write a shared cell: every desk hears of it, also another than the operation's
    unowned : (c : ℕ) → Shared p c → Unowned S c
    unowned c h q o =
        let touches : (d : ℕ) (t : Toucher p d c) → Touches S t.0 c =
        λ d t. of_touch ws accept class right sizes t.0 c t.1 t.3 in
        shared_hears S (laws ws accept class right sizes) h.3.0 h.4.0 c (touches h.0 h.3) (touches h.1 h.4)
        (λ e. h.2 (sym h.3.2 ∙ e ∙ h.4.2)) (suc q) q (λ e. omega arith) o

    store_heard : (q : ℕ) → q < p.desks → (c : ℕ) → Shared p c →
        get_or (holdings_after ws w cs q).holding.cells c 0 ≡ get_or (store_through p cells s (s.heard q)) c 0
    store_heard q l c h =
        ap (λ (v : ℕ → Kept). get_or (v q).holding.cells c 0) (sym (after_is ws accept class right sizes cs w))
        ∙ ap (λ (v : ℕ → _). get_or (v q).store c 0)
        (machine_desks M N cells w (all_sound ws accept class right cells rows snapshots cs pr) refl cs
        (proper ws accept class right cells rows snapshots cs pr))
        ∙ (store_through_lem S (laws ws accept class right sizes) cells (map call_seen cs)
        (proper_seen ws accept class right cells rows snapshots cs pr) q l).1 c (unowned c h)
        ∙ ap (λ (z : run.Serial Operation). get_or (run.store_after S (through S (z.heard q) (run.order S z)) cells) c 0) serial_is
        ∙ ap (λ (b : Store). get_or b c 0) (store_is (s.heard q))

    -- what the protocol notes of the snapshots is what the engine's calls leave
    noted_is : snapshots_of S cells (map call_seen cs) ≡ logged ws accept class right sizes w new_serial (new_snapshots cells) cs
    noted_is =
        log_seen ws accept class right sizes cs w new_serial (new_snapshots cells)
        (machine_called M N cells w (all_sound ws accept class right cells rows snapshots cs pr) refl cs
        (proper ws accept class right cells rows snapshots cs pr))
        (all_sound ws accept class right cells rows snapshots cs pr)

    module _ (equal : (q : ℕ) → snapshots q ≡ cells) (d : ℕ) (below : d < p.desks) where
      abbrev k : ℕ
      k = visits_shown p.desks d 0 (accepted_visits cs rs)

      abbrev counts : List ℕ
      counts = globals_behind p class new_serial cs rs

      -- what the protocol's theorem says of the notes t
      abbrev Shown : run.Serial Operation → Snapshots → Type 0
      Shown z t = protocol.Shows S cells z t.counts (t.shown d) (t.taken d)

      shown : Shown (serial_seen s) (logged ws accept class right sizes w new_serial (new_snapshots cells) cs)
      shown =
          rw (← serial_is, ← noted_is)
          (snapshots_show S (laws ws accept class right sizes) cells (map call_seen cs)
          (proper_seen ws accept class right cells rows snapshots cs pr) d below)

      shown_by : (l : List ℕ) (i : ℕ) (x : Store) → l ≡ counts → i ≡ k →
          ((c : ℕ) → Shared p c → get_or x c 0 ≡ get_or (holdings_after ws w cs d).snapshot c 0) →
          protocol.Shows S cells (serial_seen s) l i x → Shows p cells s counts k (holdings_after ws w cs d).snapshot
      shown_by l i x el ei ex h =
          let g : protocol.Shows S cells (serial_seen s) counts k x = rw (el, ei) at h in
          record {
            within = g.within;
            cells = λ c sh. sym (ex c sh) ∙ g.cells.1 c (unowned c sh) ∙ ap (λ (b : Store). get_or b c 0) (store_is (globals_of counts k));
            heard = g.heard;
          }

      shows : Shows p cells s counts k (holdings_after ws w cs d).snapshot
      shows =
          shown_by _ _ _ (logged_counts ws accept class right sizes cs w new_serial (new_snapshots cells))
          (logged_shown ws accept class right sizes d cs w new_serial (new_snapshots cells))
          (λ c sh. logged_taken ws accept class right sizes c sh cs w new_serial (new_snapshots cells)
          (λ q. ap (λ (l : List ℕ). get_or l c 0) (sym (equal q))) d)
          shown

-- ---- the theorems

-- the sharp form
pub snapshot_shows_latest : SnapshotShowsLatest
snapshot_shows_latest plan accept class right cells rows cs pr d l =
    shows plan accept class right cells rows (λ (p : ℕ). cells) cs pr (λ q. refl) d l

-- "each such cell shows no global at all, or the globals up to a visit whose globals every desk has already applied or run"
pub snapshot_shows : SnapshotShows
snapshot_shows plan accept class right cells rows cs pr d l =
    (_, snapshot_shows_latest plan accept class right cells rows cs pr d l)

pub store_through_heard : StoreThroughHeard
store_through_heard plan accept class right cells rows snapshots cs pr = store_heard plan accept class right cells rows snapshots cs pr

pub visits_counted : VisitsCounted
visits_counted p class s [] refusals = refl
visits_counted p class s (c ∷ cs) [] = refl
visits_counted p class s (c ∷ cs) (true ∷ refusals) = visits_counted p class (note p class true s c) cs refusals
visits_counted p class s (request d client k ps ∷ cs) (false ∷ refusals) =
    visits_counted p class (note p class false s (request d client k ps)) cs refusals
visits_counted p class s (visit d frame out replies ∷ cs) (false ∷ refusals) =
    ap suc (visits_counted p class (note p class false s (visit d frame out replies)) cs refusals)
