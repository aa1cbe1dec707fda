-- The serial run of specs/SerialRun is the protocol's, call by call.
-- Assumes nothing.
use Prim.Native.Nat.{ℕ, suc}
use mathlib.Core.Path.{◌≡◌, refl, sym, ◌∙◌, ap, ap₂}
use mathlib.Core.Bool.{Bool, true, false}
use mathlib.Core.List.{List, [], ◌∷◌, ◌++◌, map, map-append}
use lib.Dec.{eqb}
use lib.ListN.{length, length-map}
use Rattle.lists.specs.Lists.{assign}
use Rattle.plan.specs.Decode.{plan_of}
use Rattle.operation.specs.Operation.{Operation, desk_of}
use Rattle.conflict.specs.Class.{Class, free, local, global}
use Rattle.queue.specs.declared.record.Request.{Request}
use Rattle.desk.specs.Queueing.{operation_of, is_urgent, join_queue}
use Rattle.desk.proofs.Priority.{join_map}
use Rattle.requests.specs.Request.{record_of}
use Rattle.serial.specs.System.{System}
use Rattle.serial.specs.Desk as desk
use Rattle.serial.specs.Step as step
use Rattle.serial.specs.Order as order
use Rattle.serial.specs.SerialRun as run
use Rattle.serial.proofs.Assign.{assign_map}
use Rattle.history.specs.History.{Call, request, visit}
use Rattle.history.specs.Order.{Slot, global_run, immediate_run, Finished}
use Rattle.history.specs.SerialRun.{Serial, note_request, note_run, note_join, note_visit, ranked, note, note_all}
use Rattle.history.proofs.Protocol.{Sizes, class_seen, urgent_seen, system}
use Rattle.history.proofs.Seen.{request_seen}
use Rattle.history.proofs.View.{call_seen}

abbrev pub slot_seen : Slot → order.Slot
slot_seen (global_run k) = order.global_run k
slot_seen (immediate_run g p) = order.immediate_run g p

abbrev pub finished_seen : Finished → order.Finished Operation
finished_seen e = record { slot = slot_seen e.slot; by = e.by; request = request_seen e.request }

abbrev made : (ℕ → List (desk.Request Operation)) → (ℕ → ℕ) → List (desk.Request Operation) → ℕ → List (order.Finished Operation) → ℕ →
    run.Serial Operation
made qs hs gs l fs k = record { queues = qs; heard = hs; globals = gs; latest = l; finished = fs; calls = k }

abbrev pub serial_seen : Serial → run.Serial Operation
serial_seen s =
    made (λ (p : ℕ). map request_seen (s.queues p)) s.heard (map request_seen s.globals) s.latest (map finished_seen s.finished)
    s.calls

module _ (ws : List ℕ) (class : Operation → Class) (sizes : Sizes) where
  -- the protocol of the plan
  abbrev pub S : System
  S = system ws class sizes

  ranked_seen : (i k : ℕ) (q : List Request) → map finished_seen (ranked i k q) ≡ run.ranked S i k (map request_seen q)
  ranked_seen i k [] = refl
  ranked_seen i k (r ∷ q) =
      ap (λ (l : List (order.Finished Operation)). finished_seen (record { slot = global_run (suc k); by = i; request = r }) ∷ l)
      (ranked_seen i (suc k) q)

  run_noted : (s : Serial) (p : ℕ) (r : Request) → serial_seen (note_run s p r)
      ≡ run.note_request S step.immediate (serial_seen s) p (request_seen r)
  run_noted s p r =
      ap (λ (fs : List (order.Finished Operation)).
      made (λ (p : ℕ). map request_seen (s.queues p)) s.heard (map request_seen s.globals) s.latest fs
      (suc s.calls))
      (map-append finished_seen s.finished (record { slot = immediate_run (s.heard p) p; by = s.calls; request = r } ∷ []))

  join_noted : (s : Serial) (p : ℕ) (r : Request) → serial_seen (note_join (plan_of ws) s p r)
      ≡ run.note_request S step.enqueue (serial_seen s) p (request_seen r)
  join_noted s p r =
      ap (λ (qs : ℕ → List (desk.Request Operation)).
      made qs s.heard (map request_seen s.globals) s.latest (map finished_seen s.finished)
      (suc s.calls))
      (assign_map (map request_seen) p (join_queue (is_urgent (plan_of ws)) (s.queues p) r) s.queues
      ∙ ap (λ (q : List (desk.Request Operation)). assign p q (λ (p : ℕ). map request_seen (s.queues p)))
      (join_map request_seen (urgent_seen ws class sizes) (s.queues p) r))

  request_noted : (k : Class) (own : Bool) (s : Serial) (p : ℕ) (r : Request) → serial_seen (note_request (plan_of ws) k own s p r)
      ≡ run.note_request S (step.route_by (class_seen k) own) (serial_seen s) p (request_seen r)
  request_noted free own s p r = run_noted s p r
  request_noted local true s p r = run_noted s p r
  request_noted local false s p r = refl
  request_noted global true s p r = join_noted s p r
  request_noted global false s p r = refl

  visit_noted : (s : Serial) (p : ℕ) → serial_seen (note_visit s p) ≡ run.note_visit S (serial_seen s) p
  visit_noted s p =
      let gs : List (desk.Request Operation) = map request_seen s.globals in
      let joined : map request_seen (s.globals ++ s.queues p) ≡ gs ++ map request_seen (s.queues p) =
      map-append request_seen s.globals (s.queues p) in
      let count : length (s.globals ++ s.queues p) ≡ length (gs ++ map request_seen (s.queues p)) =
      sym (length-map (s.globals ++ s.queues p) request_seen) ∙ ap length joined in
      ap₂ (λ (qs : ℕ → List (desk.Request Operation)) (hs : ℕ → ℕ). made qs hs (map request_seen (s.globals ++ s.queues p)) p
      (map finished_seen (s.finished ++ ranked s.calls (length s.globals) (s.queues p))) (suc s.calls))
      (assign_map (map request_seen) p [] s.queues) (ap (λ (k : ℕ). assign p k s.heard) count)
      ∙ ap₂ (λ (g : List (desk.Request Operation)) (fs : List (order.Finished Operation)).
      made (assign p [] (λ (p : ℕ). map request_seen (s.queues p)))
      (assign p (length (gs ++ map request_seen (s.queues p))) s.heard) g p fs (suc s.calls))
      joined
      (map-append finished_seen s.finished (ranked s.calls (length s.globals) (s.queues p))
      ∙ ap (λ (l : List (order.Finished Operation)). map finished_seen s.finished ++ l)
      (ranked_seen s.calls (length s.globals) (s.queues p)
      ∙ ap (λ (k : ℕ). run.ranked S s.calls k (map request_seen (s.queues p)))
      (sym (length-map s.globals request_seen))))

  note_seen : (b : Bool) (s : Serial) (c : Call) → serial_seen (note (plan_of ws) class b s c)
      ≡ run.note S b (serial_seen s) (call_seen c)
  note_seen true s c = refl
  note_seen false s (request p client k ps) =
      request_noted (class (operation_of (record_of client k ps))) (eqb (desk_of (plan_of ws) (operation_of (record_of client k ps))) p) s p
      (record_of client k ps)
  note_seen false s (visit p ft out replies) = visit_noted s p

  -- the whole run
  pub notes_seen : (cs : List Call) (bs : List Bool) (s : Serial) → serial_seen (note_all (plan_of ws) class s cs bs)
      ≡ run.note_all S (serial_seen s) (map call_seen cs) bs
  notes_seen [] bs s = refl
  notes_seen (c ∷ cs) [] s = refl
  notes_seen (c ∷ cs) (b ∷ bs) s =
      notes_seen cs bs (note (plan_of ws) class b s c)
      ∙ ap (λ (t : run.Serial Operation). run.note_all S t (map call_seen cs) bs) (note_seen b s c)
