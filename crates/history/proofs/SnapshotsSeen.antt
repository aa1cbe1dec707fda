-- What the protocol notes of the snapshots in a history of the engine: the globals behind each accepted visit, the visits that each desk's
-- snapshot shows, and its shared cells, all by the engine's own calls.
--     logged, log_seen                              the protocol's notes, call by call
--     logged_counts, logged_shown, logged_taken     what they are at the end
-- Assumes nothing.
use Prim.Native.Nat.{ℕ}
use mathlib.Core.Path.{◌≡◌, refl, sym, ◌∙◌, ap, subst}
use mathlib.Core.Bool.{Bool, true, false, cond}
use mathlib.Core.List.{List, [], ◌∷◌, ◌++◌, map, append_assoc, append-nil}
use lib.ListN.{length, get_or, length-map}
use Rattle.verdict.specs.Verdict.{accepted}
use Rattle.std.specs.List.{AllByRecursion}
use Rattle.std.proofs.lemmas.Bool.{eq-eqb, ne_eqb}
use Rattle.lists.proofs.Laws.{by_same}
use Rattle.plan.specs.Plan.{Plan}
use Rattle.plan.specs.Decode.{plan_of}
use Rattle.plan.specs.Admission.{plan_verdict}
use Rattle.operation.specs.Operation.{Operation}
use Rattle.conflict.specs.Class.{Class}
use Rattle.conflict.specs.Shared.{Shared}
use Rattle.serial.specs.System.{System}
use Rattle.serial.specs.Desk as desk
use Rattle.serial.specs.History as protocol
use Rattle.serial.specs.SerialRun as run
use Rattle.serial.specs.Snapshot.{Snapshots, note_taken, snapshots_after}
use Rattle.serial.specs.Machine.{Machine, seen}
use Rattle.serial.proofs.Bridge.{Called, AllOk, seen_answers, seen_after, ok_after}
use Rattle.history.specs.History.{Call, request, visit, is_refused, is_refused_forwarding, Kept, outcome_at, step_at, outcomes}
use Rattle.history.specs.History.{holdings_after}
use Rattle.visits.specs.Visit.{visit_result}
use Rattle.history.specs.SerialRun.{Classifies, Serial, note}
use Rattle.history.specs.VisitNumbers.{accepted_visits}
use Rattle.history.specs.Snapshot.{behind_call, globals_behind, visits_shown}
use Rattle.history.proofs.Protocol.{Sizes, system}
use Rattle.history.proofs.Seen.{request_seen}
use Rattle.history.proofs.View.{call_seen}
use Rattle.history.proofs.Machine.{machine, after_is, refusals_are}
use Rattle.history.proofs.SerialSeen.{serial_seen, notes_seen}
use Rattle.history.proofs.SnapshotCells.{refused_left, shared_left}

single : {A : Type 0} (x y : A) → (x ∷ []) ≡ (y ∷ []) → x ≡ y
single x y e = cc

module _ (ws : List ℕ) (accept : plan_verdict ws ≡ accepted) (class : Operation → Class) (right : Classifies (plan_of ws) class)
    (sizes : Sizes) where
  abbrev p : Plan
  p = plan_of ws

  abbrev S : System
  S = system ws class sizes

  abbrev M : Machine S
  M = machine ws accept class right sizes

  -- ---- call by call

  -- s is the serial run behind the call
  abbrev pub logged_at : (ℕ → Kept) → Serial → Snapshots → Call → Snapshots
  logged_at w s t c = cond (is_refused (outcome_at ws w c)) t (note_taken S (seen M w) (length s.globals) t (call_seen c))

  abbrev pub logged : (ℕ → Kept) → Serial → Snapshots → List Call → Snapshots
  logged w s t [] = t
  logged w s t (c ∷ cs) =
      logged (step_at ws w c) (note p class (is_refused (outcome_at ws w c)) s c)
      (logged_at w (note p class (is_refused (outcome_at ws w c)) s c) t c) cs

  module _ (w : ℕ → Kept) (c : Call) (h : Called M c) (ok : AllOk M w) where
    refused_at : desk.is_refused (protocol.answer_at S (seen M w) (call_seen c)) ≡ is_refused (outcome_at ws w c)
    refused_at =
        single _ _
        (ap (map desk.is_refused) (sym (seen_answers M (c ∷ []) w (h, tt) ok)) ∙ refusals_are ws accept class right sizes (c ∷ []) w)

    step_at_lem : protocol.step_at S (seen M w) (call_seen c) ≡ seen M (step_at ws w c)
    step_at_lem = sym (seen_after M (c ∷ []) w (h, tt) ok) ∙ ap (seen M) (after_is ws accept class right sizes (c ∷ []) w)

    ok_at : AllOk M (step_at ws w c)
    ok_at = subst (AllOk M) (after_is ws accept class right sizes (c ∷ []) w) (ok_after M (c ∷ []) w (h, tt) ok)

  pub log_seen : (cs : List Call) (w : ℕ → Kept) (s : Serial) (t : Snapshots) → AllByRecursion (Called M) cs → AllOk M w →
      snapshots_after S (seen M w) (serial_seen s) t (map call_seen cs) ≡ logged w s t cs
  log_seen [] w s t h ok = refl
  log_seen (c ∷ cs) w s t h ok =
      let r : Bool = is_refused (outcome_at ws w c) in
      let v : ℕ → desk.Desk Operation = seen M (step_at ws w c) in
      let u : run.Serial Operation → ℕ → Snapshots = λ (z : run.Serial Operation) (m : ℕ).
      snapshots_after S v z (cond r t (note_taken S (seen M w) m t (call_seen c))) (map call_seen cs) in
      ap (λ (b : Bool). snapshots_after S (protocol.step_at S (seen M w) (call_seen c)) (run.note S b (serial_seen s) (call_seen c))
      (cond b t (note_taken S (seen M w) (length (run.note S b (serial_seen s) (call_seen c)).globals) t (call_seen c))) (map call_seen cs))
      (refused_at w c h.0 ok)
      ∙ ap (λ (x : ℕ → desk.Desk Operation). snapshots_after S x (run.note S r (serial_seen s) (call_seen c))
      (cond r t (note_taken S (seen M w) (length (run.note S r (serial_seen s) (call_seen c)).globals) t (call_seen c))) (map call_seen cs))
      (step_at_lem w c h.0 ok)
      ∙ ap (λ (z : run.Serial Operation). u z (length z.globals)) (sym (notes_seen ws class sizes (c ∷ []) (r ∷ []) s))
      ∙ ap (u (serial_seen (note p class r s c))) (length-map (note p class r s c).globals request_seen)
      ∙ log_seen cs (step_at ws w c) (note p class r s c) (logged_at w (note p class r s c) t c) h.1 (ok_at w c h.0 ok)

  -- ---- at the end

  counts_at : (b : Bool) (w : ℕ → Kept) (s : Serial) (t : Snapshots) (c : Call) →
      (cond b t (note_taken S (seen M w) (length s.globals) t (call_seen c))).counts ≡ t.counts ++ behind_call b c s
  counts_at true w s t c = sym (append-nil t.counts)
  counts_at false w s t (request q client k ps) = sym (append-nil t.counts)
  counts_at false w s t (visit q ft out replies) = refl

  pub logged_counts : (cs : List Call) (w : ℕ → Kept) (s : Serial) (t : Snapshots) →
      (logged w s t cs).counts ≡ t.counts ++ globals_behind p class s cs (map is_refused (outcomes ws w cs))
  logged_counts [] w s t = sym (append-nil t.counts)
  logged_counts (c ∷ cs) w s t =
      let r : Bool = is_refused (outcome_at ws w c) in
      let s' : Serial = note p class r s c in
      logged_counts cs (step_at ws w c) s' (logged_at w s' t c)
      ∙ ap (λ (l : List ℕ). l ++ globals_behind p class s' cs (map is_refused (outcomes ws (step_at ws w c) cs))) (counts_at r w s' t c)
      ∙ append_assoc t.counts (behind_call r c s') _

  module _ (d : ℕ) where
    shown_at : (b : Bool) (w : ℕ → Kept) (m : ℕ) (t : Snapshots) (c : Call) (cs : List Call) (bs : List Bool) →
        visits_shown p.desks d ((cond b t (note_taken S (seen M w) m t (call_seen c))).shown d) (accepted_visits cs bs)
        ≡ visits_shown p.desks d (t.shown d) (accepted_visits (c ∷ cs) (b ∷ bs))
    shown_at true w m t c cs bs = refl
    shown_at false w m t (request q client k ps) cs bs = refl
    shown_at false w m t (visit q ft out replies) cs bs = refl

    pub logged_shown : (cs : List Call) (w : ℕ → Kept) (s : Serial) (t : Snapshots) →
        (logged w s t cs).shown d ≡ visits_shown p.desks d (t.shown d) (accepted_visits cs (map is_refused (outcomes ws w cs)))
    logged_shown [] w s t = refl
    logged_shown (c ∷ cs) w s t =
        let r : Bool = is_refused (outcome_at ws w c) in
        let s' : Serial = note p class r s c in
        logged_shown cs (step_at ws w c) s' (logged_at w s' t c) ∙ shown_at r w (length s'.globals) t c cs _

  -- of a shared cell x
  module _ (x : ℕ) (shared : Shared p x) where
    -- each desk's snapshot has it as it is noted
    abbrev pub Agrees : (ℕ → Kept) → Snapshots → Type 0
    Agrees w t = (d : ℕ) → get_or (t.taken d) x 0 ≡ get_or (w d).snapshot x 0

    request_at : (b : Bool) (w : ℕ → Kept) (m : ℕ) (t : Snapshots) (q client k : ℕ) (ps : List ℕ) → Agrees w t →
        Agrees (step_at ws w (request q client k ps)) (cond b t (note_taken S (seen M w) m t (call_seen (request q client k ps))))
    request_at true w m t q client k ps a d = by_same d q (λ e. rw (eq-eqb _ _ e) (rw e (a q))) (λ e. rw (ne_eqb _ _ e) (a d))
    request_at false w m t q client k ps a d = by_same d q (λ e. rw (eq-eqb _ _ e) (rw e (a q))) (λ e. rw (ne_eqb _ _ e) (a d))

    visit_at : (w : ℕ → Kept) (m : ℕ) (t : Snapshots) (q : ℕ) (ft out replies : List ℕ) → Agrees w t → (b : Bool) →
        is_refused_forwarding (visit_result ws (w q).holding (w q).snapshot ft out replies).answer ≡ b →
        Agrees (step_at ws w (visit q ft out replies)) (cond b t (note_taken S (seen M w) m t (call_seen (visit q ft out replies))))
    visit_at w m t q ft out replies a true i d =
        by_same d q
        (λ e. rw (eq-eqb _ _ e) (rw (e, refused_left ws (w q).holding (w q).snapshot ft out replies i) (a q)))
        (λ e. rw (ne_eqb _ _ e) (a d))
    visit_at w m t q ft out replies a false i d =
        by_same d q
        (λ e. rw (eq-eqb _ _ e) (sym (shared_left ws (w q).holding (w q).snapshot ft out replies i x shared)))
        (λ e. rw (ne_eqb _ _ e) (a d))

    call_at : (w : ℕ → Kept) (m : ℕ) (t : Snapshots) (c : Call) → Agrees w t →
        Agrees (step_at ws w c) (cond (is_refused (outcome_at ws w c)) t (note_taken S (seen M w) m t (call_seen c)))
    call_at w m t (request q client k ps) a =
        request_at (is_refused (outcome_at ws w (request q client k ps))) w m t q client k ps a
    call_at w m t (visit q ft out replies) a = visit_at w m t q ft out replies a _ refl

    pub logged_taken : (cs : List Call) (w : ℕ → Kept) (s : Serial) (t : Snapshots) → Agrees w t →
        Agrees (holdings_after ws w cs) (logged w s t cs)
    logged_taken [] w s t a = a
    logged_taken (c ∷ cs) w s t a =
        let s' : Serial = note p class (is_refused (outcome_at ws w c)) s c in
        logged_taken cs (step_at ws w c) s' (logged_at w s' t c) (call_at w (length s'.globals) t c a)
