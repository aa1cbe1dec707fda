-- A visit at a desk that stands is the protocol's visit; what it writes is read back; and the desk stands behind it.
-- Assumes nothing.
use Prim.Native.Nat.{ℕ, ◌+◌, ◌%◌, ◌≤◌, ◌<◌}
use mathlib.Core.Path.{◌≡◌, refl, sym, ◌∙◌, ap, ap₂}
use mathlib.Core.Bool.{Bool, true, false, ◌&&◌, cond}
use mathlib.Core.List.{List, [], ◌++◌, map, map-append}
use native.Mathlib.Nat.{add-mod_right}
use native.Mathlib.Numerals.{add-one}
use native.Mathlib.Omega.{arith}
use lib.Dec.{eqb}
use lib.ListN.{length, drop}
use lib.Seq.{take-append_seam, length-take-le}
use borrow.Author.Tests.{ltb-true, eqb-true, eq-eqb}
use Rattle.verdict.specs.Verdict.{Verdict, accepted, refused, is_accepted}
use Rattle.verdict.proofs.Verdicts.{ask_then_accepted, then_accepted}
use Rattle.std.proofs.lemmas.Bool.{and_from}
use Rattle.word.specs.Field.{addressed_desk}
use Rattle.plan.specs.Decode.{head_of, plan_of}
use Rattle.plan.specs.Admission.{plan_verdict}
use Rattle.plan.proofs.Accepted.{accepted_gives, desk_count_lem}
use Rattle.operation.specs.Operation.{Operation}
use Rattle.operation.specs.Store.{Store, Update}
use Rattle.execution.specs.Run.{Reply}
use Rattle.conflict.specs.Class.{Class}
use Rattle.frame.specs.Frame.{SentUpdate, sent}
use Rattle.frame.specs.Admission.{frame_verdict, frame_visit, frame_updates, ReadsAs}
use Rattle.token.proofs.RoundTrip.{reads_written, written_reads}
use Rattle.queue.specs.declared.record.Request.{Request}
use Rattle.desk.specs.declared.state.Desk.{Desk}
use Rattle.desk.specs.Holding.{Holding, waiting_at}
use Rattle.desk.specs.Admission.{desk_buffers_fit, desk_fits}
use Rattle.desk.proofs.QuestionSix.{none_waits}
use Rattle.visits.specs.Admission.{visit_buffers_fit, turn_verdict}
use Rattle.token.specs.Forward.{foreign}
use Rattle.visits.specs.Visit.{Visited, caught_up, outgoing_updates, outgoing_frame, accepted_visit, visited_by, visit_verdict}
use Rattle.visits.specs.Visit.{visit_result}
use Rattle.visits.specs.Snapshot.{snapshot_taken}
use Rattle.visits.specs.Waiting.{run_all, updates_of, replies_of}
use Rattle.serial.specs.System.{System}
use Rattle.serial.specs.Store as store
use Rattle.serial.specs.Frame as frame
use Rattle.serial.specs.Desk as desk
use Rattle.serial.specs.Step as step
use Rattle.history.specs.History.{visited, holding_after}
use Rattle.history.proofs.Protocol.{Sizes, Brought, visit_asked, system}
use Rattle.history.proofs.Outgoing.{outgoing_formed}
use Rattle.history.proofs.Seen.{request_seen, update_seen, frame_seen, answered_seen, foreign_seen, apply_seen, sent_seen, run_all_seen}
use Rattle.history.proofs.Seen.{updates_seen, replies_seen}
use Rattle.history.proofs.View.{view, forwarding_seen}
use Rattle.history.proofs.Sound.{Sound, six}

and_false : (a : Bool) → (a && false) ≡ false
and_false true = refl
and_false false = refl

-- what an accepted visit shows of the frame: it reads, and its number is the awaited one
pub record Turn (ws : List ℕ) (d : Desk) (ft : List ℕ) : Type 0 where
  pub reads : frame_verdict (plan_of ws).desks ft ≡ accepted
  pub number : frame_visit ft ≡ d.awaited

pub turn_of : (ws : List ℕ) (h : Holding) (snapshot ft out replies : List ℕ) → visit_verdict ws h snapshot ft out replies ≡ accepted
    → Turn ws h.state ft
unfolding visit_verdict turn_verdict
turn_of ws h snapshot ft out replies e =
    let a = (then_accepted (plan_verdict ws) _ e).1 in
    let b = (ask_then_accepted 5 (desk_buffers_fit h.cells h.queue && visit_buffers_fit snapshot out replies) _ a).1 in
    let c = (ask_then_accepted 6 (desk_fits (plan_of ws) h.state h.queue) _ b).1 in
    let f = then_accepted (frame_verdict (plan_of ws).desks ft) _ c in
    let t = (ask_then_accepted 13 (eqb (addressed_desk (head_of ft)) h.state.desk) _ f.1).1 in
    record {
      reads = f.0;
      number = eqb-true (frame_visit ft) h.state.awaited (ask_then_accepted 14 (eqb (frame_visit ft) h.state.awaited) _ t).0;
    }

module _ (ws : List ℕ) (accept : plan_verdict ws ≡ accepted) (sizes : Sizes) (h : Holding)
    (ok : Sound ws sizes.records h.state.desk h) (snapshot ft out replies : List ℕ) where
  abbrev d : Desk
  d = h.state

  abbrev n : ℕ
  n = (plan_of ws).desks

  abbrev us : List SentUpdate
  us = frame_updates ft

  abbrev q : List Request
  q = waiting_at h

  abbrev c : Store
  c = caught_up (plan_of ws) h ft

  abbrev outs : List SentUpdate
  outs = outgoing_updates (plan_of ws) h ft

  abbrev sends : List ℕ
  sends = outgoing_frame (plan_of ws) h ft

  abbrev left : Visited
  left = accepted_visit (plan_of ws) h ft (snapshot_taken (plan_of ws) h.cells snapshot) out replies

  abbrev asking : Verdict
  asking = visit_verdict ws h snapshot ft out replies

  -- ---- what is written reads

  low : 1 ≤ n
  low = rw (desk_count_lem ws) (accepted_gives ws accept).desks_low

  high : n ≤ 8
  high = rw (desk_count_lem ws) (accepted_gives ws accept).desks_high

  below : d.desk < n
  below = ltb-true d.desk n (six ws h ok.fits).below

  few : length q ≤ 32
  few = omega (arith, length-take-le d.waiting h.queue ok.room, (six ws h ok.fits).few)

  -- the outgoing frame reads as visit v + 1 with the outgoing updates
  pub sends_reads : Turn ws d ft → ReadsAs n sends (frame_visit ft + 1) outs
  sends_reads t =
      written_reads n (frame_visit ft + 1) outs low high
      (outgoing_formed ws accept d.desk below us q c
      (reads_written n ft (frame_visit ft) us (record { verdict = t.reads; number = refl; sent = refl })).1 ok.runs few)

  -- ---- the desk stands behind the call

  abbrev After : Visited → Type 0
  After m = Sound ws sizes.records d.desk (holding_after h (visited m))

  accepted_sound : Turn ws d ft → After left
  unfolding desk_fits
  accepted_sound t =
      let s = six ws h ok.fits in
      record {
        desk = refl;
        fits = and_from _ _ s.below
            (and_from _ _ refl
            (and_from _ _ (eq-eqb ((frame_visit ft + n) % n) d.desk
            (add-mod_right (frame_visit ft) n ∙ ap (λ (v : ℕ). v % n) t.number ∙ s.turn))
            (none_waits (plan_of ws) d.desk h.queue 0 refl)));
        size = ok.size;
        room = omega arith;
        runs = tt;
      }

  visited_sound : (v : Verdict) → (v ≡ accepted → Turn ws d ft) → After (visited_by (plan_of ws) h ft snapshot out replies v)
  visited_sound accepted f = accepted_sound (f refl)
  visited_sound (refused k) f =
      record { desk = refl; fits = ok.fits; size = ok.size; room = ok.room; runs = ok.runs }

  pub visit_sound : After (visit_result ws h snapshot ft out replies)
  unfolding visit_result
  visit_sound = visited_sound asking (turn_of ws h snapshot ft out replies)

  -- ---- what the protocol sees

  module _ (class : Operation → Class) (long : length snapshot ≡ sizes.words d.desk) where
    -- the protocol of the plan
    abbrev pub S : System
    S = system ws class sizes

    abbrev Seen : Type 0
    Seen = desk.Desk Operation × desk.Answer Reply

    abbrev seen : Visited → Seen
    seen m = (view (holding_after h (visited m)), forwarding_seen m.answer m.out (replies_of (plan_of ws) q c))

    abbrev brought : Brought
    brought = record { frame = ft; out = out; replies = replies }

    asking_is : asking ≡ visit_asked ws class sizes h.cells d.desk d.awaited brought
    unfolding visit_verdict desk_buffers_fit visit_buffers_fit turn_verdict
    asking_is = rw (accept, ok.fits, ok.size, long) refl

    caught_seen : step.caught_up S d.desk (view h) (frame_seen ft) ≡ c
    caught_seen =
        ap (λ (ts : List (ℕ × Update)). store.apply_all (frame.untag ts) h.cells) (foreign_seen d.desk us)
        ∙ apply_seen (foreign d.desk us) h.cells

    made_seen : step.made S d.desk (view h) (frame_seen ft) ≡ map update_seen (map (sent d.desk) (updates_of (plan_of ws) q c))
    made_seen =
        ap (λ (s : Store). frame.tag d.desk (step.updates_of S (map request_seen q) s)) caught_seen
        ∙ ap (frame.tag d.desk) (updates_seen ws class sizes q c ok.runs)
        ∙ sent_seen d.desk (updates_of (plan_of ws) q c)

    outgoing_seen : Turn ws d ft → frame_seen sends ≡ step.outgoing S d.desk (view h) (frame_seen ft)
    outgoing_seen t =
        let r = sends_reads t in
        ap₂ (λ (v : ℕ) (ts : List (ℕ × Update)). record { number = v; updates = ts })
        (r.number ∙ add-one (frame_visit ft))
        (ap (map update_seen) r.sent
        ∙ map-append update_seen (foreign d.desk us) (map (sent d.desk) (updates_of (plan_of ws) q c))
        ∙ ap₂ ◌++◌ (sym (foreign_seen d.desk us)) (sym made_seen))

    store_seen : run_all (plan_of ws) q c ≡ step.run_all S (map request_seen q)
        (step.caught_up S d.desk (view h) (frame_seen ft))
    store_seen =
        sym (ap (step.run_all S (map request_seen q)) caught_seen ∙ run_all_seen ws class sizes q c ok.runs)

    given_seen : map answered_seen (replies_of (plan_of ws) q c) ≡ step.replies_of S (map request_seen q)
        (step.caught_up S d.desk (view h) (frame_seen ft))
    given_seen =
        sym (ap (step.replies_of S (map request_seen q)) caught_seen ∙ replies_seen ws class sizes q c ok.runs)

    accepted_seen : Turn ws d ft → seen left ≡ step.visit_step S d.desk (view h) (frame_seen ft)
    accepted_seen t =
        ap₂ (λ (s : Store) (a : desk.Answer Reply). (record { store = s; queue = []; awaited = frame_visit ft + n }, a)) store_seen
        (ap₂ desk.forwarded (ap frame_seen (take-append_seam sends (drop (length sends) out)) ∙ outgoing_seen t) given_seen)

    visited_seen : (v : Verdict) → (v ≡ accepted → Turn ws d ft) → seen (visited_by (plan_of ws) h ft snapshot out replies v)
        ≡ cond (eqb (frame_visit ft) d.awaited && is_accepted v)
        (step.visit_step S d.desk (view h) (frame_seen ft)) (view h, desk.refused)
    visited_seen accepted f = rw (eq-eqb (frame_visit ft) d.awaited (f refl).number) (accepted_seen (f refl))
    visited_seen (refused k) f = rw (and_false (eqb (frame_visit ft) d.awaited)) refl

    -- the state and the answer are the protocol's
    pub visit_seen : seen (visit_result ws h snapshot ft out replies)
        ≡ step.serve S (view h) (desk.visit d.desk (frame_seen ft) brought)
    unfolding visit_result
    visit_seen =
        visited_seen asking (turn_of ws h snapshot ft out replies)
        ∙ ap (λ (v : Verdict). cond (eqb (frame_visit ft) d.awaited && is_accepted v)
        (step.visit_step S d.desk (view h) (frame_seen ft)) (view h, desk.refused)) asking_is
