-- The engine is a machine of `serial`: each call is the protocol's, seen through the view, and its frames are words. Its histories are
-- those of specs/History.
-- Assumes nothing.
use Prim.Native.Nat.{ℕ, ◌≤◌}
use mathlib.Core.Path.{◌≡◌, refl, sym, ◌∙◌, ap, ap₂, subst}
use mathlib.Core.Bool.{Bool}
use mathlib.Core.List.{List, [], ◌∷◌, ◌++◌, map}
use lib.ListN.{length}
use Rattle.verdict.specs.Verdict.{accepted}
use Rattle.plan.specs.Decode.{plan_of}
use Rattle.plan.specs.Admission.{plan_verdict}
use Rattle.plan.proofs.Accepted.{accepted_gives, desk_count_lem}
use Rattle.operation.specs.Operation.{Operation}
use Rattle.operation.specs.Store.{Update}
use Rattle.execution.specs.Run.{Reply}
use Rattle.conflict.specs.Class.{Class}
use Rattle.frame.specs.Frame.{starting_frame}
use Rattle.token.proofs.Readers.{starting_reads}
use Rattle.requests.specs.Request.{record_of, request_result}
use Rattle.requests.specs.Request as asked
use Rattle.visits.specs.Visit.{visit_result}
use Rattle.visits.specs.Visit as visiting
use Rattle.visits.specs.Waiting.{Answered}
use Rattle.serial.specs.Frame as frame
use Rattle.serial.specs.Desk as desk
use Rattle.serial.specs.Step as step
use Rattle.serial.specs.Machine.{Machine, Words, machine_after, answers_seen, MachineProper}
use Rattle.history.specs.History.{Call, request, visit, Outcome, requested, visited, is_refused, Kept, holding_after}
use Rattle.history.specs.History.{is_refused_response, is_refused_forwarding, frame_written, written}
use Rattle.history.specs.History.{outcome, step_at, outcome_at, outcomes}
use Rattle.history.specs.History.{kept_after, holdings_after, WordsFit, Proper}
use Rattle.history.specs.SerialRun.{Classifies}
use Rattle.history.proofs.Protocol.{Sizes, Brought, system}
use Rattle.history.proofs.Seen.{frame_seen}
use Rattle.history.proofs.View.{view, call_seen, response_seen, forwarding_seen, outcome_seen, replies_run}
use Rattle.history.proofs.Sound.{Sound}
use Rattle.history.proofs.Requests.{request_seen_lem, request_sound}
use Rattle.history.proofs.Visits.{visit_seen, visit_sound}
use Rattle.history.proofs.SnapshotCells.{left_length}

-- the words of the frame that a call brings
abbrev pub frame_brought : Call → List ℕ
frame_brought (request p client k ps) = []
frame_brought (visit p ft out replies) = ft

-- ---- answers as the protocol sees them

response_refused : (client : ℕ) (a : asked.Response) → desk.is_refused (response_seen client a) ≡ is_refused_response a
response_refused client (asked.replied r) = refl
response_refused client asked.waits = refl
response_refused client (asked.redirected d) = refl
response_refused client (asked.request_refused question) = refl

response_sends : (client : ℕ) (a : asked.Response) → desk.sent (response_seen client a) ≡ []
response_sends client (asked.replied r) = refl
response_sends client asked.waits = refl
response_sends client (asked.redirected d) = refl
response_sends client (asked.request_refused question) = refl

forwarding_refused : (a : visiting.Forwarding) (out : List ℕ) (rs : List Answered)
    → desk.is_refused (forwarding_seen a out rs) ≡ is_refused_forwarding a
forwarding_refused (visiting.forwarded words count) out rs = refl
forwarding_refused (visiting.visit_refused question) out rs = refl

forwarding_sends : (a : visiting.Forwarding) (out : List ℕ) (rs : List Answered)
    → desk.sent (forwarding_seen a out rs) ≡ map frame_seen (frame_written a out)
forwarding_sends (visiting.forwarded words count) out rs = refl
forwarding_sends (visiting.visit_refused question) out rs = refl

module _ (ws : List ℕ) (h : Kept) (rs : List Answered) where
  pub refused_seen : (c : Call) → desk.is_refused (outcome_seen c (outcome ws h c) rs) ≡ is_refused (outcome ws h c)
  refused_seen (request p client k ps) = response_refused client (request_result ws h.holding (record_of client k ps)).answer
  refused_seen (visit p ft out replies) =
      let v = visit_result ws h.holding h.snapshot ft out replies in forwarding_refused v.answer v.out rs

  pub sent_is : (c : Call) → desk.sent (outcome_seen c (outcome ws h c) rs) ≡ map frame_seen (written (outcome ws h c))
  sent_is (request p client k ps) = response_sends client (request_result ws h.holding (record_of client k ps)).answer
  sent_is (visit p ft out replies) =
      let v = visit_result ws h.holding h.snapshot ft out replies in forwarding_sends v.answer v.out rs

-- the words that a visit brings are those of its frame
pub shows : (c : Call) (p : ℕ) (f : frame.Frame) (x : Brought) → call_seen c ≡ desk.visit p f x → f ≡ frame_seen (frame_brought c)
shows (request d client k ps) p f x e = cc
shows (visit d ft out replies) p f x e = cc

pub start_seen : (ws : List ℕ) → plan_verdict ws ≡ accepted → frame_seen starting_frame ≡ frame.start_frame
start_seen ws accept =
    let low : 1 ≤ (plan_of ws).desks = rw (desk_count_lem ws) (accepted_gives ws accept).desks_low in
    let high : (plan_of ws).desks ≤ 8 = rw (desk_count_lem ws) (accepted_gives ws accept).desks_high in
    let r = starting_reads (plan_of ws).desks low high in
    ap₂ (λ (v : ℕ) (ts : List (ℕ × Update)). record { number = v; updates = ts }) r.number (ap (map _) r.sent)

module _ (ws : List ℕ) (accept : plan_verdict ws ≡ accepted) (class : Operation → Class) (right : Classifies (plan_of ws) class)
    (sizes : Sizes) where
  -- what a history keeps of all that desk p keeps
  abbrev pub Stands : ℕ → Kept → Type 0
  Stands p h = Sound ws sizes.records p h.holding × (length h.snapshot ≡ sizes.words p)

  pub sound_does : (h : Kept) (c : Call) → WordsFit c → Sound ws sizes.records (desk.desk_called (call_seen c)) h.holding →
      Sound ws sizes.records (desk.desk_called (call_seen c)) (kept_after h (outcome ws h c)).holding
  sound_does h (request p client k ps) f ok =
      subst (λ (q : ℕ). Sound ws sizes.records q h.holding → Sound ws sizes.records q (holding_after h.holding
      (requested (request_result ws h.holding (record_of client k ps)))))
      ok.desk (λ s. request_sound ws accept class right sizes h.holding s client k ps f) ok
  sound_does h (visit p ft out replies) f ok =
      subst (λ (q : ℕ). Sound ws sizes.records q h.holding → Sound ws sizes.records q (holding_after h.holding
      (visited (visit_result ws h.holding h.snapshot ft out replies))))
      ok.desk (λ s. visit_sound ws accept sizes h.holding s h.snapshot ft out replies) ok

  -- no call changes the snapshot's length
  pub length_does : (h : Kept) (c : Call) → length (kept_after h (outcome ws h c)).snapshot ≡ length h.snapshot
  length_does h (request p client k ps) = refl
  length_does h (visit p ft out replies) = left_length ws h.holding h.snapshot ft out replies

  abbrev pub Served : Kept → Call → Type 0
  Served h c =
      ◌≡◌ {A = desk.Desk Operation × desk.Answer Reply}
      (view (kept_after h (outcome ws h c)).holding, outcome_seen c (outcome ws h c) (replies_run ws h.holding c))
      (step.serve (system ws class sizes) (view h.holding) (call_seen c))

  pub served : (h : Kept) (c : Call) → WordsFit c → Stands (desk.desk_called (call_seen c)) h → Served h c
  served h (request p client k ps) f ok =
      subst (λ (q : ℕ). Stands q h → Served h (request q client k ps)) ok.0.desk
      (λ s. request_seen_lem ws accept class right sizes h.holding s.0 client k ps f) ok
  served h (visit p ft out replies) f ok =
      subst (λ (q : ℕ). Stands q h → Served h (visit q ft out replies)) ok.0.desk
      (λ s. visit_seen ws accept sizes h.holding s.0 h.snapshot ft out replies class s.1) ok

  abbrev pub machine : Machine (system ws class sizes)
  machine =
      record {
        State = Kept;
        C = Call;
        A = Outcome × List Answered;
        does = λ h c. (kept_after h (outcome ws h c), (outcome ws h c, replies_run ws h.holding c));
        view = λ h. view h.holding;
        call_of = call_seen;
        answer_of = λ c a. outcome_seen c a.0 a.1;
        Ok = Stands;
        Fine = WordsFit;
        ok_does = λ h c l f ok. (sound_does h c f ok.0, length_does h c ∙ ok.1);
        view_does = λ h c l f ok. ap (λ (x : desk.Desk Operation × desk.Answer Reply). x.0) (served h c f ok);
        answer_does = λ h c l f ok. ap (λ (x : desk.Desk Operation × desk.Answer Reply). x.1) (served h c f ok);
      }

  abbrev pub frames : Words machine
  frames =
      record {
        W = List ℕ;
        frame_of = frame_seen;
        shown = frame_brought;
        out = λ a. written a.0;
        start = starting_frame;
        shown_frame = shows;
        out_frame = λ h c l f ok. sent_is ws h (replies_run ws h.holding c) c;
        start_frame_lem = start_seen ws accept;
      }

  -- ---- its histories

  pub after_is : (cs : List Call) (w : ℕ → Kept) → machine_after machine w cs ≡ holdings_after ws w cs
  after_is [] w = refl
  after_is (request p client k ps ∷ cs) w = after_is cs (step_at ws w (request p client k ps))
  after_is (visit p ft out replies ∷ cs) w = after_is cs (step_at ws w (visit p ft out replies))

  pub refusals_are : (cs : List Call) (w : ℕ → Kept) → map desk.is_refused (answers_seen machine w cs) ≡ map is_refused (outcomes ws w cs)
  refusals_are [] w = refl
  refusals_are (request p client k ps ∷ cs) w =
      ap₂ (λ (b : Bool) (bs : List Bool). b ∷ bs) (refused_seen ws (w p) [] (request p client k ps))
      (refusals_are cs (step_at ws w (request p client k ps)))
  refusals_are (visit p ft out replies ∷ cs) w =
      ap₂ (λ (b : Bool) (bs : List Bool). b ∷ bs)
      (refused_seen ws (w p) (replies_run ws (w p).holding (visit p ft out replies)) (visit p ft out replies))
      (refusals_are cs (step_at ws w (visit p ft out replies)))

  pub proper_is : (cs : List Call) (w : ℕ → Kept) (fs : List (List ℕ)) → Proper ws w fs cs → MachineProper machine frames w fs cs
  proper_is [] w fs pr = tt
  proper_is (request p client k ps ∷ cs) w fs pr =
      (pr.0, pr.1, λ e. tt, proper_is cs (step_at ws w (request p client k ps)) (fs ++ []) pr.3)
  proper_is (visit p ft out replies ∷ cs) w fs pr =
      let c : Call = visit p ft out replies in (
        pr.0,
        pr.1,
        λ e. pr.2 (sym (refused_seen ws (w p) (replies_run ws (w p).holding c) c) ∙ e),
        proper_is cs (step_at ws w c) (fs ++ written (outcome_at ws w c)) pr.3,
      )
