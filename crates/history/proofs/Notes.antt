-- All that a serial run notes of a history's accepted calls are operations of the plan.
-- Assumes nothing.
use Prim.Native.Nat.{ℕ, suc, ◌^◌, ◌<◌}
use mathlib.Core.Path.{◌≡◌, refl}
use mathlib.Core.Bool.{Bool, true, false, cond, true≢false}
use mathlib.Core.List.{List, [], ◌∷◌, ◌++◌, map}
use lib.Dec.{eqb}
use lib.ListN.{length, get_or}
use Rattle.verdict.specs.Verdict.{Verdict, accepted, refused}
use Rattle.verdict.proofs.Verdicts.{then_accepted, ask_then_accepted}
use Rattle.std.specs.List.{AllByRecursion}
use Rattle.lists.proofs.Laws.{All_append}
use Rattle.plan.specs.Plan.{Plan}
use Rattle.plan.specs.Decode.{plan_of}
use Rattle.plan.specs.Admission.{plan_verdict}
use Rattle.operation.specs.Operation.{Operation, desk_of}
use Rattle.conflict.specs.Class.{Class, free, local, global}
use Rattle.queue.specs.declared.record.Request.{Request}
use Rattle.desk.specs.Holding.{Holding}
use Rattle.desk.specs.Queueing.{operation_of, is_urgent, join_queue}
use Rattle.desk.specs.Admission.{desk_buffers_fit, desk_fits}
use Rattle.requests.specs.Request.{record_of, served, request_verdict, request_result}
use Rattle.history.specs.History.{Call, request, visit, desk_called, is_refused_response, is_refused, Kept, outcome_at, step_at, outcomes}
use Rattle.history.specs.History.{written, WordsFit, Proper}
use Rattle.history.specs.SerialRun.{Serial, note_nothing, note_run, note_join, note_request, ranked, note_visit, note, note_all}
use Rattle.history.proofs.Operations.{Runs}
use Rattle.history.proofs.Requests.{record_runs, join_runs}
use Rattle.history.proofs.OrderSeen.{RanAs, RunsAll}

-- every line and every finished request
pub record Noted (p : Plan) (s : Serial) : Type 0 where
  pub lines : (d : ℕ) → AllByRecursion (Runs p) (s.queues d)
  pub ended : RunsAll p s.finished

module _ (p : Plan) where
  either : (b : Bool) (xs ys : List Request) → AllByRecursion (Runs p) xs → AllByRecursion (Runs p) ys
      → AllByRecursion (Runs p) (cond b xs ys)
  either true xs ys h k = h
  either false xs ys h k = k

  run_noted : (s : Serial) (d : ℕ) (r : Request) → d < p.desks → Noted p s → Runs p r → Noted p (note_run s d r)
  run_noted s d r l n k =
      record { lines = n.lines; ended = All_append (RanAs p) s.finished _ n.ended ((k, l), tt) }

  join_noted : (s : Serial) (d : ℕ) (r : Request) → Noted p s → Runs p r → Noted p (note_join p s d r)
  join_noted s d r n k =
      record {
        lines = λ e. either (eqb e d) (join_queue (is_urgent p) (s.queues d) r) (s.queues e) (join_runs p (s.queues d) r (n.lines d) k)
            (n.lines e);
        ended = n.ended;
      }

  nothing_noted : (s : Serial) → Noted p s → Noted p (note_nothing s)
  nothing_noted s n = record { lines = n.lines; ended = n.ended }

  request_noted : (k : Class) (own : Bool) (s : Serial) (d : ℕ) (r : Request) → d < p.desks → Noted p s → Runs p r →
      Noted p (note_request p k own s d r)
  request_noted free own s d r l n h = run_noted s d r l n h
  request_noted local true s d r l n h = run_noted s d r l n h
  request_noted local false s d r l n h = nothing_noted s n
  request_noted global true s d r l n h = join_noted s d r n h
  request_noted global false s d r l n h = nothing_noted s n

  ranked_run : (i k : ℕ) (q : List Request) → AllByRecursion (Runs p) q → RunsAll p (ranked i k q)
  ranked_run i k [] h = tt
  ranked_run i k (r ∷ q) h = ((h.0, tt), ranked_run i (suc k) q h.1)

  visit_noted : (s : Serial) (d : ℕ) → Noted p s → Noted p (note_visit s d)
  visit_noted s d n =
      record {
        lines = λ e. either (eqb e d) [] (s.queues e) tt (n.lines e);
        ended = All_append (RanAs p) s.finished _ n.ended
            (ranked_run s.calls (length s.globals) (s.queues d) (n.lines d));
      }

module _ (ws : List ℕ) where
  -- an accepted request holds an operation
  not_refused : (h : Holding) (r : Request) (v : Verdict) → is_refused_response (served h v (plan_of ws) r).answer ≡ false → v ≡ accepted
  not_refused h r accepted e = refl
  not_refused h r (refused q) e = absurd (true≢false e)

  pub accepted_runs : (h : Holding) (client k : ℕ) (ps : List ℕ) → ((i : ℕ) → get_or ps i 0 < 2 ^ 32) →
      is_refused_response (request_result ws h (record_of client k ps)).answer ≡ false →
      Runs (plan_of ws) (record_of client k ps)
  unfolding request_result request_verdict
  accepted_runs h client k ps words e =
      let v = not_refused h (record_of client k ps) _ e in
      let a = (then_accepted (plan_verdict ws) _ v).1 in
      let b = (ask_then_accepted 5 (desk_buffers_fit h.cells h.queue) _ a).1 in
      let c = (ask_then_accepted 6 (desk_fits (plan_of ws) h.state h.queue) _ b).1 in
      record_runs ws client k ps words c

  module _ (class : Operation → Class) where
    note_noted : (w : ℕ → Kept) (c : Call) (s : Serial) → desk_called c < (plan_of ws).desks → WordsFit c → Noted (plan_of ws) s →
        (b : Bool) → is_refused (outcome_at ws w c) ≡ b → Noted (plan_of ws) (note (plan_of ws) class b s c)
    note_noted w c s l f n true e = nothing_noted (plan_of ws) s n
    note_noted w (request d client k ps) s l f n false e =
        request_noted (plan_of ws) (class (operation_of (record_of client k ps)))
        (eqb (desk_of (plan_of ws) (operation_of (record_of client k ps))) d)
        s d (record_of client k ps) l n (accepted_runs (w d).holding client k ps f e)
    note_noted w (visit d ft out replies) s l f n false e = visit_noted (plan_of ws) s d n

    pub notes_noted : (cs : List Call) (w : ℕ → Kept) (fs : List (List ℕ)) (s : Serial) → Proper ws w fs cs → Noted (plan_of ws) s →
        Noted (plan_of ws) (note_all (plan_of ws) class s cs (map is_refused (outcomes ws w cs)))
    notes_noted [] w fs s pr n = n
    notes_noted (c ∷ cs) w fs s pr n =
        notes_noted cs (step_at ws w c) (fs ++ written (outcome_at ws w c)) (note (plan_of ws) class (is_refused (outcome_at ws w c)) s c)
        pr.3
        (note_noted w c s pr.0 pr.1 n (is_refused (outcome_at ws w c)) refl)
