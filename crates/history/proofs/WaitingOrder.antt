-- Those that wait at a desk are its line in the serial run, and the line is what arrived, the urgent ones first.
--     line_in_order         each call leaves a line in order of arrival, the urgent ones first
--     waiting_is_line       those that wait at a desk are its line
--     waiting_in_order      the statement
-- Assumes nothing.
use Prim.Native.Nat.{ℕ}
use mathlib.Core.Path.{◌≡◌, refl, sym, ◌∙◌, ap}
use mathlib.Core.Bool.{Bool, true, false, ◌&&◌, cond}
use mathlib.Core.List.{List, [], ◌∷◌, ◌++◌, map}
use lib.Dec.{eqb}
use lib.ListN.{length, get_or}
use Rattle.verdict.specs.Verdict.{accepted}
use Rattle.std.proofs.lemmas.Bool.{eq-eqb, ne_eqb}
use Rattle.lists.proofs.Laws.{by_same}
use Rattle.plan.specs.Plan.{Plan}
use Rattle.plan.specs.Decode.{plan_of}
use Rattle.plan.specs.Admission.{plan_verdict}
use Rattle.operation.specs.Operation.{Operation, desk_of}
use Rattle.conflict.specs.Class.{Class, free, local, global, is_global}
use Rattle.queue.specs.declared.record.Request.{Request}
use Rattle.desk.specs.Holding.{waiting_at}
use Rattle.desk.specs.Queueing.{operation_of, is_urgent, urgent_first, join_queue}
use Rattle.desk.proofs.Priority.{first_joins}
use Rattle.requests.specs.Request.{record_of}
use Rattle.serial.specs.Desk as desk
use Rattle.serial.specs.SerialRun as run
use Rattle.serial.specs.System.{System}
use Rattle.serial.proofs.Bridge.{machine_desks}
use Rattle.serial.proofs.Histories.{history_good}
use Rattle.history.specs.History.{Call, request, visit, Kept, holdings_after, start, ProperFromStart}
use Rattle.history.specs.SerialRun.{Classifies, Serial, new_serial, note_request, note, note_all, serial}
use Rattle.history.specs.WaitingOrder.{arrived_by, arrived_from, WaitingInOrder}
use Rattle.history.proofs.Protocol.{Sizes, system}
use Rattle.history.proofs.ProtocolLaws.{laws}
use Rattle.history.proofs.Seen.{request_seen}
use Rattle.history.proofs.View.{view, call_seen}
use Rattle.history.proofs.Machine.{machine, frames, after_is}
use Rattle.history.proofs.SerialSeen.{notes_seen}
use Rattle.history.proofs.Claim.{all_sound, proper, proper_seen, refusals, refusals_seen}

-- ---- the line of desk q, call by call

module _ (p : Plan) (class : Operation → Class) (q : ℕ) where
  module _ (s : Serial) (rs : List Request) (e : s.queues q ≡ urgent_first (is_urgent p) rs) where
    request_in_order : (c : Class) (own : Bool) (d : ℕ) (r : Request)
        → (note_request p c own s d r).queues q ≡ urgent_first (is_urgent p) (cond (is_global c && (own && eqb q d)) (rs ++ (r ∷ [])) rs)
    request_in_order free own d r = e
    request_in_order local true d r = e
    request_in_order local false d r = e
    request_in_order global true d r =
        by_same q d
        (λ f. rw (eq-eqb _ _ f)
        (ap (λ (l : List Request). join_queue (is_urgent p) l r) (ap s.queues (sym f) ∙ e) ∙ first_joins (is_urgent p) rs r))
        (λ f. rw (ne_eqb _ _ f) e)
    request_in_order global false d r = e

    call_in_order : (b : Bool) (c : Call) → (note p class b s c).queues q ≡ urgent_first (is_urgent p) (arrived_by p class q b rs c)
    call_in_order true c = e
    call_in_order false (request d client k ps) =
        request_in_order (class (operation_of (record_of client k ps))) (eqb (desk_of p (operation_of (record_of client k ps))) d) d
        (record_of client k ps)
    call_in_order false (visit d frame out replies) = emptied (eqb q d)
      where
        emptied : (b : Bool) → cond b [] (s.queues q) ≡ urgent_first (is_urgent p) (cond b [] rs)
        emptied true = refl
        emptied false = e

  line_in_order : (cs : List Call) (bs : List Bool) (s : Serial) (rs : List Request) → s.queues q ≡ urgent_first (is_urgent p) rs
      → (note_all p class s cs bs).queues q ≡ urgent_first (is_urgent p) (arrived_from p class q rs cs bs)
  line_in_order [] bs s rs e = e
  line_in_order (c ∷ cs) [] s rs e = e
  line_in_order (c ∷ cs) (b ∷ bs) s rs e =
      line_in_order cs bs (note p class b s c) (arrived_by p class q b rs c) (call_in_order s rs e b c)

-- ---- what waits is the line: the protocol sees of a request all that it holds

abbrev unseen : desk.Request Operation → Request
unseen r =
    record {
      client = r.client;
      transaction = r.op.transaction;
      p0 = get_or r.op.params 0 0;
      p1 = get_or r.op.params 1 0;
      p2 = get_or r.op.params 2 0;
      p3 = get_or r.op.params 3 0;
    }

unseen_seen : (rs : List Request) → map unseen (map request_seen rs) ≡ rs
unseen_seen [] = refl
unseen_seen (r ∷ rs) = ap (◌∷◌ r) (unseen_seen rs)

module _ (ws : List ℕ) (accept : plan_verdict ws ≡ accepted) (class : Operation → Class) (right : Classifies (plan_of ws) class)
    (cells : List ℕ) (rows : ℕ → List Request) (snapshots : ℕ → List ℕ) (cs : List Call)
    (pr : ProperFromStart ws cells rows snapshots cs) (q : ℕ) where
  abbrev sizes : Sizes
  sizes = record { records = λ q. length (rows q); words = λ q. length (snapshots q) }

  abbrev S : System
  S = system ws class sizes

  abbrev w : ℕ → Kept
  w = start cells rows snapshots

  abbrev s : Serial
  s = serial (plan_of ws) class cs (refusals ws accept class right cells rows snapshots cs pr)

  line_seen : map request_seen (waiting_at (holdings_after ws w cs q).holding) ≡ map request_seen (s.queues q)
  line_seen =
      ap (λ (m : ℕ → Kept). (view (m q).holding).queue) (sym (after_is ws accept class right sizes cs w))
      ∙ ap (λ (m : ℕ → desk.Desk Operation). (m q).queue)
      (machine_desks (machine ws accept class right sizes) (frames ws accept class right sizes) cells w
      (all_sound ws accept class right cells rows snapshots cs pr) refl cs (proper ws accept class right cells rows snapshots cs pr))
      ∙ sym (ap (λ (l : ℕ → List (desk.Request Operation)). l q)
      (history_good S (laws ws accept class right sizes) cells (map call_seen cs)
      (proper_seen ws accept class right cells rows snapshots cs pr)).queues_same)
      ∙ ap (λ (bs : List Bool). (run.serial S (map call_seen cs) bs).queues q)
      (refusals_seen ws accept class right cells rows snapshots cs pr)
      ∙ sym (ap (λ (t : run.Serial Operation). t.queues q)
      (notes_seen ws class sizes cs (refusals ws accept class right cells rows snapshots cs pr) new_serial))

  waiting_is_line : waiting_at (holdings_after ws w cs q).holding ≡ s.queues q
  waiting_is_line = sym (unseen_seen _) ∙ ap (map unseen) line_seen ∙ unseen_seen (s.queues q)

pub waiting_in_order : WaitingInOrder
waiting_in_order plan accept class right cells rows snapshots cs pr q =
    waiting_is_line plan accept class right cells rows snapshots cs pr q
    ∙ line_in_order (plan_of plan) class q cs (refusals plan accept class right cells rows snapshots cs pr) new_serial [] refl
