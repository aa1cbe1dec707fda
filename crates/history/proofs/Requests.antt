-- A request at a desk that stands is the protocol's request, and the desk stands behind it.
-- Assumes nothing.
use Prim.Native.Nat.{ℕ, zero, suc, ◌+◌, ◌^◌, ◌%◌, ◌<◌}
use mathlib.Core.Path.{◌≡◌, refl, sym, ◌∙◌, ap, ap₂, subst}
use mathlib.Core.Bool.{Bool, true, false, ◌&&◌, cond}
use mathlib.Core.List.{List, [], ◌∷◌, map}
use native.Mathlib.Omega.{arith}
use lib.Dec.{ltb, eqb}
use lib.ListN.{length, get_or, length-map}
use lib.Seq.{length-take-le}
use borrow.Author.Tests.{ltb-true, eqb-true, le-leb, eq-eqb}
use Rattle.verdict.specs.Verdict.{Verdict, accepted, refused, is_accepted}
use Rattle.verdict.proofs.Verdicts.{ask_then_accepted}
use Rattle.std.specs.List.{list_all, AllByRecursion}
use Rattle.std.proofs.lemmas.Bool.{and_from}
use Rattle.lists.proofs.Laws.{and_snd, all_member, member_all, All_mem, mem_All}
use Rattle.plan.specs.Plan.{Plan}
use Rattle.plan.specs.Decode.{plan_of}
use Rattle.plan.specs.Admission.{plan_verdict}
use Rattle.operation.specs.Operation.{Operation, desk_of}
use Rattle.operation.specs.Admission.{IsOperation, operation_verdict}
use Rattle.operation.specs.Store.{Store}
use Rattle.execution.specs.Run.{Outcome, Reply}
use Rattle.conflict.specs.Class.{Class, free, local, global, class_of}
use Rattle.conflict.proofs.Classes.{class_free, class_local, class_global}
use Rattle.queue.specs.declared.record.Request.{Request}
use Rattle.desk.specs.declared.state.Desk.{Desk}
use Rattle.desk.specs.Holding.{Holding, waiting_at}
use Rattle.desk.specs.Queueing.{operation_of, is_urgent, join_queue}
use Rattle.desk.specs.Admission.{desk_buffers_fit, waits_here, queue_fits, desk_fits}
use Rattle.desk.proofs.Priority.{join_keeps_order, join_member, join_map}
use Rattle.requests.specs.Request.{Requested, record_of, served, routed, ran_now, enqueued, unchanged, request_verdict}
use Rattle.requests.specs.Request.{request_result}
use Rattle.requests.specs.Request as asked
use Rattle.requests.proofs.Joining.{enqueued_length, joins_queue}
use Rattle.serial.specs.System.{System}
use Rattle.serial.specs.Desk as desk
use Rattle.serial.specs.Step as step
use Rattle.history.specs.History.{requested, holding_after}
use Rattle.history.specs.SerialRun.{Is, Classifies}
use Rattle.history.proofs.Operations.{Runs}
use Rattle.history.proofs.Protocol.{Sizes, class_seen, room_by, sizes_fit, request_asked, urgent_seen, system}
use Rattle.history.proofs.Seen.{request_seen, ran_is, one_seen}
use Rattle.history.proofs.View.{view, response_seen}
use Rattle.history.proofs.Sound.{Sound, six}

-- the record of a request whose parameters are words and that passes 7 and 8 holds an operation
four_words : (ps : List ℕ) → ((i : ℕ) → get_or ps i 0 < 2 ^ 32) → (i : ℕ)
    → get_or (get_or ps 0 0 ∷ get_or ps 1 0 ∷ get_or ps 2 0 ∷ get_or ps 3 0 ∷ []) i 0 < 2 ^ 32
four_words ps h zero = h 0
four_words ps h (suc zero) = h 1
four_words ps h (suc (suc zero)) = h 2
four_words ps h (suc (suc (suc zero))) = h 3
four_words ps h (suc (suc (suc (suc i)))) = omega arith

pub record_runs : (ws : List ℕ) (client k : ℕ) (ps : List ℕ) → ((i : ℕ) → get_or ps i 0 < 2 ^ 32)
    → operation_verdict (plan_of ws) (operation_of (record_of client k ps)) ≡ accepted → Runs (plan_of ws) (record_of client k ps)
record_runs ws client k ps h e = record { four = refl; words = four_words ps h; passes = e }

-- the computed class is the one over all operations
pub class_same : (ws : List ℕ) → plan_verdict ws ≡ accepted → (o : Operation) → IsOperation (plan_of ws) o → (k : Class)
    → Is (plan_of ws) o k → class_of (plan_of ws) o ≡ k
class_same ws e o i free m = (class_free ws e o i).1 m
class_same ws e o i local m = (class_local ws e o i).1 m
class_same ws e o i global m = (class_global ws e o i).1 m

-- a request joins those that wait: what held of each, and of it, holds of each
module _ (p : Plan) (waiting : List Request) (r : Request) where
  pub join_runs : AllByRecursion (Runs p) waiting → Runs p r → AllByRecursion (Runs p) (join_queue (is_urgent p) waiting r)
  join_runs h k =
      mem_All (Runs p) (join_queue (is_urgent p) waiting r)
      (λ t m. All_mem (Runs p) t (r ∷ waiting) (join_member (is_urgent p) waiting r t m) (k, h))

  join_fits : (desk : ℕ) → list_all (waits_here p desk) waiting ≡ true → waits_here p desk r ≡ true
      → queue_fits p desk (join_queue (is_urgent p) waiting r) ≡ true
  unfolding queue_fits
  join_fits desk h k =
      and_from _ _
      (member_all (waits_here p desk) (join_queue (is_urgent p) waiting r)
      (λ t m. all_member (waits_here p desk) (r ∷ waiting) t (and_from _ _ k h) (join_member (is_urgent p) waiting r t m)))
      (join_keeps_order Request (is_urgent p) waiting r)

module _ (ws : List ℕ) (accept : plan_verdict ws ≡ accepted) (class : Operation → Class) (right : Classifies (plan_of ws) class)
    (sizes : Sizes) (h : Holding) (ok : Sound ws sizes.records h.state.desk h) (client k : ℕ) (ps : List ℕ)
    (words : (i : ℕ) → get_or ps i 0 < 2 ^ 32) where
  -- the protocol of the plan
  abbrev pub S : System
  S = system ws class sizes

  abbrev pub r : Request
  r = record_of client k ps

  abbrev pub o : Operation
  o = operation_of r

  abbrev pub d : Desk
  d = h.state

  abbrev own : Bool
  own = eqb (desk_of (plan_of ws) o) d.desk

  -- ---- the verdict

  abbrev pub asking : Verdict
  asking = request_verdict ws h r

  asking_is : asking ≡ request_asked ws class sizes h.cells d.desk o
  unfolding request_verdict desk_buffers_fit
  asking_is = rw (accept, ok.fits, ok.size) refl

  pub record Passes : Type 0 where
    pub runs : IsOperation (plan_of ws) o
    pub whole : length h.queue ≡ 32

  pub passes : asking ≡ accepted → Passes
  passes e =
      let b = ask_then_accepted 5 (sizes_fit ws class sizes h.cells d.desk) _ (sym asking_is ∙ e) in
      let s = b.0 in
      record {
        runs = record_runs ws client k ps words b.1;
        whole = ok.size ∙ eqb-true (sizes.records d.desk) 32 (and_snd (eqb (length h.cells) 1024) _ s);
      }

  -- ---- what the protocol sees

  abbrev Seen : Type 0
  Seen = desk.Desk Operation × desk.Answer Reply

  abbrev seen : Requested → Seen
  seen m = (view (holding_after h (requested m)), response_seen client m.answer)

  waiting_count : length (map request_seen (waiting_at h)) ≡ d.waiting
  waiting_count = length-map (waiting_at h) request_seen ∙ length-take-le d.waiting h.queue ok.room

  module _ (p : Passes) where
    pub joined : d.waiting < 32
        → waiting_at (holding_after h (requested (enqueued h (plan_of ws) r))) ≡ join_queue (is_urgent (plan_of ws)) (waiting_at h) r
    joined l = joins_queue h (plan_of ws) r (omega (arith, p.whole))

    now_seen : seen (ran_now h (plan_of ws) o) ≡ step.request_step S step.immediate (view h) (request_seen r)
    now_seen =
        ap₂ (λ (s : Store) (m : Outcome).
        (record { store = s; queue = (view h).queue; awaited = d.awaited }, desk.replied (client, m.reply)))
        (sym (one_seen ws class sizes o h.cells p.runs)) (sym (ran_is ws class sizes o h.cells p.runs))

    join_seen : (b : Bool) → ltb d.waiting 32 ≡ b →
        seen (cond b (enqueued h (plan_of ws) r) (unchanged h (asked.request_refused 9)))
        ≡ cond b (step.request_step S step.enqueue (view h) (request_seen r)) (view h, desk.refused)
    join_seen true e =
        ap (λ (q : List (desk.Request Operation)). (record { store = h.cells; queue = q; awaited = d.awaited }, desk.waits))
        (ap (map request_seen) (joined (ltb-true d.waiting 32 e)) ∙ join_map request_seen (urgent_seen ws class sizes) (waiting_at h) r)
    join_seen false e = refl

    routed_seen : (c : Class) (b : Bool) → seen (routed h c b (plan_of ws) r)
        ≡ cond (room_by c b (length (view h).queue))
        (step.request_step S (step.route_by (class_seen c) b) (view h) (request_seen r)) (view h, desk.refused)
    routed_seen free b = now_seen
    routed_seen local true = now_seen
    routed_seen local false = refl
    routed_seen global true = rw waiting_count (join_seen (ltb d.waiting 32) refl)
    routed_seen global false = refl

  served_seen : (v : Verdict) → (v ≡ accepted → Passes) → seen (served h v (plan_of ws) r)
      ≡ cond (is_accepted v && room_by (class o) own (length (view h).queue))
      (step.request_step S (step.route_by (class_seen (class o)) own) (view h) (request_seen r)) (view h, desk.refused)
  served_seen (refused q) f = refl
  served_seen accepted f =
      let p : Passes = f refl in
      ap (λ (c : Class). seen (routed h c own (plan_of ws) r))
      (class_same ws accept o p.runs (class o) (right o p.runs))
      ∙ routed_seen p (class o) own

  -- the state and the answer are the protocol's
  pub request_seen_lem : seen (request_result ws h r)
      ≡ step.serve S (view h) (desk.request d.desk (request_seen r) (record { frame = []; out = []; replies = [] }))
  unfolding request_result
  request_seen_lem =
      served_seen asking passes
      ∙ ap (λ (v : Verdict). cond (is_accepted v && room_by (class o) own (length (view h).queue))
      (step.request_step S (step.route_by (class_seen (class o)) own) (view h) (request_seen r)) (view h, desk.refused))
      asking_is

  -- ---- the desk stands behind the call

  abbrev After : Requested → Type 0
  After m = Sound ws sizes.records d.desk (holding_after h (requested m))

  kept : (cells : List ℕ) → Sound ws sizes.records d.desk (record { state = d; cells = cells; queue = h.queue })
  kept cells = record { desk = refl; fits = ok.fits; size = ok.size; room = ok.room; runs = ok.runs }

  joins_sound : Passes → d.waiting < 32 → class_of (plan_of ws) o ≡ global → own ≡ true → After (enqueued h (plan_of ws) r)
  unfolding desk_fits waits_here
  joins_sound p l c b =
      let s = six ws h ok.fits in
      let long = enqueued_length h (plan_of ws) r (omega (arith, p.whole)) in
      let here : waits_here (plan_of ws) d.desk r ≡ true = rw (p.runs.passes, c, b) refl in
      record {
        desk = refl;
        fits = and_from _ _ s.below
            (and_from _ _ (le-leb (d.waiting + 1) 32 (omega arith))
            (and_from _ _ (eq-eqb (d.awaited % (plan_of ws).desks) d.desk s.turn)
            (ap (queue_fits (plan_of ws) d.desk) (joined p l) ∙ join_fits (plan_of ws) (waiting_at h) r d.desk s.each here)));
        size = long ∙ ok.size;
        room = omega (arith, long, p.whole);
        runs = subst (AllByRecursion (Runs (plan_of ws))) (sym (joined p l)) (join_runs (plan_of ws) (waiting_at h) r ok.runs p.runs);
      }

  join_sound : Passes → class_of (plan_of ws) o ≡ global → own ≡ true → (t : Bool) → ltb d.waiting 32 ≡ t →
      After (cond t (enqueued h (plan_of ws) r) (unchanged h (asked.request_refused 9)))
  join_sound p c b true e = joins_sound p (ltb-true d.waiting 32 e) c b
  join_sound p c b false e = kept h.cells

  routed_sound : Passes → (c : Class) (b : Bool) → class_of (plan_of ws) o ≡ c → own ≡ b → After (routed h c b (plan_of ws) r)
  routed_sound p free b c e = kept _
  routed_sound p local true c e = kept _
  routed_sound p local false c e = kept _
  routed_sound p global true c e = join_sound p c e (ltb d.waiting 32) refl
  routed_sound p global false c e = kept _

  served_sound : (v : Verdict) → (v ≡ accepted → Passes) → After (served h v (plan_of ws) r)
  served_sound (refused q) f = kept _
  served_sound accepted f = routed_sound (f refl) (class_of (plan_of ws) o) own refl refl

  pub request_sound : After (request_result ws h r)
  unfolding request_result
  request_sound = served_sound asking passes
