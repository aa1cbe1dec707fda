-- What an accepted visit gives, whatever the desk's past: the frame that it writes reads, it answers its waiting requests in order, and
-- a frame with one word changed is refused.
-- Assumes nothing.
use Prim.Native.Nat.{ℕ, zero, suc, ◌+◌, ◌*◌, ◌≤◌, ◌<◌}
use mathlib.Core.Path.{◌≡◌, refl, sym, ◌∙◌, ap}
use mathlib.Core.Logic.{inl, inr, ⊎_elim}
use mathlib.Core.Bool.{Bool, true, ◌&&◌}
use mathlib.Core.List.Memᴰ
use mathlib.Core.List.{List, [], ◌∷◌, ◌++◌, Memᴰ}
use native.Mathlib.Omega.{arith}
use lib.Dec.{eqb}
use lib.ListN.{length, get_or, set, take, drop}
use lib.Seq.{take-append_seam, drop-append_seam, drop-append-add, length-take-le, get_or-take, take-take}
use borrow.Author.Tests.{eqb-true}
use Rattle.verdict.specs.Verdict.{Verdict, accepted, refused, is_accepted}
use Rattle.verdict.proofs.Verdicts.{ask_then_accepted, then_accepted, is_accepted_accepted}
use Rattle.lists.specs.Lists.{overwritten}
use Rattle.lists.proofs.Laws.{and_fst, and_snd, all_member, mem_All}
use Rattle.plan.specs.Plan.{Plan}
use Rattle.plan.specs.Decode.{plan_of}
use Rattle.plan.specs.Admission.{plan_verdict}
use Rattle.operation.specs.Admission.{operation_verdict}
use Rattle.operation.specs.Store.{Store, apply_update}
use Rattle.execution.specs.Run.{run}
use Rattle.frame.specs.Admission.{frame_verdict}
use Rattle.frame.proofs.OneWord.{one_word}
use Rattle.frame.proofs.Verdicts.{read_after}
use Rattle.queue.specs.Queue.{no_request}
use Rattle.queue.specs.declared.record.Request.{Request}
use Rattle.desk.specs.declared.state.Desk.{Desk}
use Rattle.desk.specs.Holding.{Holding, waiting_at}
use Rattle.desk.specs.Queueing.{operation_of}
use Rattle.desk.specs.Admission.{desk_buffers_fit, waits_here, desk_fits}
use Rattle.visits.specs.Admission.{visit_buffers_fit}
use Rattle.visits.specs.Visit.{forwarded, Visited, caught_up, outgoing_frame, visited_by, visit_verdict, visit_result}
use Rattle.visits.specs.Waiting.{run_all, Answered, replies_of, reply_size, reply_words, replies_words}
use Rattle.visits.specs.Running.{reply_to, all_replies}
use Rattle.visits.proofs.WaitingRuns.{replies_length}
use Rattle.visits.proofs.OwnUpdates.{replies_count}
use Rattle.history.specs.Answering.{WaitsAt, reply_part, store_before, AnswersWaiting, VisitAnswersWaiting}
use Rattle.history.specs.AcceptedVisit.{RecordsFit, Sends, VisitFrameReads, ChangedWordRefused}
use Rattle.history.proofs.Operations.{Runs}
use Rattle.history.proofs.Protocol.{Sizes}
use Rattle.history.proofs.Sound.{Sound, Six, six}
use Rattle.history.proofs.Visits.{turn_of, sends_reads}

mem_take : {A : Type 0} (k : ℕ) (l : List A) (x : A) → Memᴰ x (take k l) → Memᴰ x l
mem_take zero l x m = absurd (Memᴰ.not-nil m)
mem_take (suc k) [] x m = m
mem_take (suc k) (y ∷ l) x (Memᴰ.head e) = Memᴰ.head e
mem_take (suc k) (y ∷ l) x (Memᴰ.tail m) = Memᴰ.tail (mem_take k l x m)

-- the reply of record k, with any words after the replies
replies_at : (p : Plan) (q : List Request) (s : Store) (k : ℕ) (rest : List ℕ) → k < length q →
    reply_part k (replies_words (replies_of p q s) ++ rest) ≡ reply_words (reply_to p (get_or q k no_request) (run_all p (take k q) s))
unfolding replies_of replies_words run_all
replies_at p [] s k rest l = absurd (omega arith)
replies_at p (r ∷ q) s zero rest l = refl
replies_at p (r ∷ q) s (suc k) rest l =
    let after = apply_update (run p (operation_of r) s).update s in
    let e : reply_size * suc k ≡ reply_size + reply_size * k = omega arith in
    ap (λ (n : ℕ). take reply_size (drop n (replies_words (replies_of p (r ∷ q) s) ++ rest))) e
    ∙ ap (take reply_size) (drop-append-add (reply_words (reply_to p r s)) (replies_words (replies_of p q after) ++ rest) (reply_size * k))
    ∙ replies_at p q after k rest (omega arith)

module _ (plan : List ℕ) (h : Holding) (snapshot frame out replies : List ℕ) where
  abbrev d : Desk
  d = h.state

  abbrev waiting : List Request
  waiting = waiting_at h

  abbrev caught : Store
  caught = caught_up (plan_of plan) h frame

  abbrev given : List Answered
  given = replies_of (plan_of plan) waiting caught

  abbrev left : Visited
  left = visit_result plan h snapshot frame out replies

  abbrev sends : List ℕ
  sends = outgoing_frame (plan_of plan) h frame

  -- ---- acceptance shows the verdict

  forwarded_accepted : (words count : ℕ) (v : Verdict)
      → (visited_by (plan_of plan) h frame snapshot out replies v).answer ≡ forwarded words count → v ≡ accepted
  forwarded_accepted words count accepted e = refl
  forwarded_accepted words count (refused q) e = cc

  module _ (words count : ℕ) (answered : left.answer ≡ forwarded words count) where
    verdict_of_lem : visit_verdict plan h snapshot frame out replies ≡ accepted
    unfolding visit_result
    verdict_of_lem = forwarded_accepted words count (visit_verdict plan h snapshot frame out replies) answered

    plan_of_lem : plan_verdict plan ≡ accepted
    unfolding visit_verdict
    plan_of_lem = (then_accepted (plan_verdict plan) _ verdict_of_lem).0

    abbrev fit : Bool
    fit = desk_buffers_fit h.cells h.queue && visit_buffers_fit snapshot out replies

    rest_of : (fit ≡ true) × (desk_fits (plan_of plan) d h.queue ≡ true)
    unfolding visit_verdict
    rest_of =
        let a = (then_accepted (plan_verdict plan) _ verdict_of_lem).1 in
        let b = ask_then_accepted 5 fit _ a in (b.0, (ask_then_accepted 6 (desk_fits (plan_of plan) d h.queue) _ b.1).0)

    six_of : Six plan h
    six_of = six plan h rest_of.1

    size_of : length h.queue ≡ 32
    unfolding desk_buffers_fit
    size_of =
        let b = and_fst (desk_buffers_fit h.cells h.queue) (visit_buffers_fit snapshot out replies) rest_of.0 in
        eqb-true (length h.queue) 32 (and_snd (eqb (length h.cells) 1024) _ b)

    room_of : d.waiting ≤ length h.queue
    room_of = omega (arith, six_of.few, size_of)

    -- ---- the replies

    accepted_is : (forwarded words count ≡ forwarded (length sends) (length given))
        × (left.replies ≡ overwritten (replies_words given) replies) × (left.out ≡ overwritten sends out) × (left.state.waiting ≡ 0)
    unfolding visit_result
    accepted_is = (sym answered ∙ rw verdict_of_lem refl, rw verdict_of_lem refl, rw verdict_of_lem refl, rw verdict_of_lem refl)

    waiting_length : length waiting ≡ d.waiting
    waiting_length = length-take-le d.waiting h.queue room_of

    replies_size_lem : length (replies_words given) ≡ reply_size * d.waiting
    unfolding all_replies
    replies_size_lem = replies_length (plan_of plan) waiting caught ∙ ap (λ (n : ℕ). reply_size * n) waiting_length

    answers_each : (k : ℕ) (r : Request) → WaitsAt k r h →
        reply_part k left.replies ≡ reply_words (reply_to (plan_of plan) r (store_before plan h frame k))
    answers_each k r w =
        let l : k < d.waiting = w.0 in
        rw (
          accepted_is.1,
          replies_at (plan_of plan) waiting caught k (drop (length (replies_words given)) replies) (omega (arith, waiting_length)),
          get_or-take d.waiting h.queue k no_request l,
          w.1,
          take-take k d.waiting h.queue (omega arith),
        ) refl

    answers_waiting : AnswersWaiting plan h frame replies count left
    answers_waiting =
        let counted : count ≡ d.waiting =
        same_count accepted_is.0 ∙ replies_count (plan_of plan) waiting caught ∙ waiting_length in
        record {
          count_is = counted;
          each = answers_each;
          untouched = rw (counted, accepted_is.1, ← replies_size_lem) (drop-append_seam (replies_words given) _);
          none_waits = accepted_is.3;
        }
      where
        same_count : {a b : ℕ} → forwarded words count ≡ forwarded a b → count ≡ b
        same_count e = cc

    -- ---- the frame

    waits_runs : RecordsFit h.queue → (r : Request) → Memᴰ r waiting → Runs (plan_of plan) r
    unfolding waits_here
    waits_runs fit r m =
        let e = all_member (waits_here (plan_of plan) d.desk) waiting r six_of.each m in
        record {
          four = refl;
          words = fit r (mem_take d.waiting h.queue r m);
          passes = is_accepted_accepted (operation_verdict (plan_of plan) (operation_of r))
              (and_fst (is_accepted (operation_verdict (plan_of plan) (operation_of r))) _ e);
        }

    -- what an accepted visit writes is read as visit v + 1 with the outgoing updates
    frame_reads : RecordsFit h.queue → Sends plan h frame (take words left.out)
    frame_reads fit =
        let ok : Sound plan (λ (q : ℕ). length h.queue) d.desk h =
        record {
          desk = refl;
          fits = rest_of.1;
          size = refl;
          room = room_of;
          runs = mem_All (Runs (plan_of plan)) waiting (waits_runs fit);
        } in
        let sizes : Sizes = record { records = λ q. length h.queue; words = λ q. length snapshot } in
        let r = sends_reads plan plan_of_lem sizes h ok snapshot frame out replies
        (turn_of plan h snapshot frame out replies verdict_of_lem) in
        let whole : take words left.out ≡ sends =
        rw (accepted_is.2, same_words accepted_is.0) (take-append_seam sends (drop (length sends) out)) in
        rw whole
        (record {
          verdict = sym (read_after plan sends accepted plan_of_lem (sym r.verdict));
          number = r.number;
          updates = r.sent;
        })
      where
        same_words : {a b : ℕ} → forwarded words count ≡ forwarded a b → words ≡ a
        same_words e = cc

-- "runs all waiting requests in order": each waiting request is answered at this visit, and no other
pub visit_answers_waiting : VisitAnswersWaiting
visit_answers_waiting plan h snapshot frame out replies words count e = answers_waiting plan h snapshot frame out replies words count e

pub visit_frame_reads : VisitFrameReads
visit_frame_reads plan h snapshot frame out replies words count e = frame_reads plan h snapshot frame out replies words count e

pub changed_word_refused : ChangedWordRefused
unfolding visit_result visit_verdict
changed_word_refused plan h snapshot frame out replies a b c words reads i x l hx ne =
    ⊎_elim (λ (e : frame_verdict (plan_of plan).desks (set frame i x) ≡ refused 10). inl (rw (a, b, c, e) refl))
    (λ (e : frame_verdict (plan_of plan).desks (set frame i x) ≡ refused 11). inr (rw (a, b, c, e) refl))
    (one_word (plan_of plan).desks frame words reads i x l hx ne)
