-- Demand 2, of one visit: the frame that an accepted visit sends reads, and a frame that reads is refused once one word is changed.
use Rattle.std.specs.Prelude.{ℕ, ◌+◌, ◌^◌, ◌<◌, ◌≡◌, ◌⊎◌, true, ◌&&◌, length, get_or, set, take}
use mathlib.Core.List.{List, Memᴰ}
use Rattle.verdict.specs.Verdict.{accepted}
use Rattle.plan.specs.Decode.{plan_of}
use Rattle.plan.specs.Admission.{plan_verdict}
use Rattle.word.specs.Words.{AllWords}
use Rattle.frame.specs.Admission.{frame_verdict, frame_visit, frame_updates, read_verdict}
use Rattle.queue.specs.Queue.{params_of}
use Rattle.queue.specs.declared.record.Request.{Request}
use Rattle.desk.specs.Holding.{Holding}
use Rattle.desk.specs.Admission.{desk_buffers_fit, desk_fits}
use Rattle.visits.specs.Admission.{visit_buffers_fit}
use Rattle.visits.specs.Visit.{forwarded, visit_refused, outgoing_updates, visit_result}

-- "Words are unsigned 32-bit": the parameters of every record
abbrev pub RecordsFit : List Request → Type 0
RecordsFit queue = (r : Request) → Memᴰ r queue → AllWords (params_of r)

module _ (plan : List ℕ) (h : Holding) (frame : List ℕ) where
  -- these words read as visit v + 1 with the outgoing updates
  pub record Sends (sent : List ℕ) : Type 0 where
    pub verdict : read_verdict plan sent ≡ accepted
    pub number : frame_visit sent ≡ frame_visit frame + 1
    pub updates : frame_updates sent ≡ outgoing_updates (plan_of plan) h frame

  -- "A "no" gives its number; nothing lent and no state changes"
  abbrev pub RefusedWith : List ℕ → List ℕ → List ℕ → ℕ → Type 0
  RefusedWith snapshot out replies question =
      visit_result plan h snapshot frame out replies
      ≡ record { answer = visit_refused question; state = h.state; cells = h.cells; snapshot = snapshot; out = out; replies = replies }

-- the frame that an accepted visit writes: the first words of the outgoing ones, as many as its answer says
abbrev pub VisitFrameReads : Type 0
VisitFrameReads =
    (plan : List ℕ) (h : Holding) (snapshot frame out replies : List ℕ) (words count : ℕ)
    → (visit_result plan h snapshot frame out replies).answer ≡ forwarded words count → RecordsFit h.queue
    → Sends plan h frame (take words (visit_result plan h snapshot frame out replies).out)

-- where the plan is accepted and questions 5 and 6 pass: word i is changed to another word x
abbrev pub ChangedWordRefused : Type 0
ChangedWordRefused =
    (plan : List ℕ) (h : Holding) (snapshot frame out replies : List ℕ) → plan_verdict plan ≡ accepted
    → desk_buffers_fit h.cells h.queue && visit_buffers_fit snapshot out replies ≡ true
    → desk_fits (plan_of plan) h.state h.queue ≡ true
    → AllWords frame → frame_verdict (plan_of plan).desks frame ≡ accepted
    → (i x : ℕ) → i < length frame → x < 2 ^ 32 → (x ≡ get_or frame i 0 → ⊥)
    → RefusedWith plan h (set frame i x) snapshot out replies 10 ⊎ RefusedWith plan h (set frame i x) snapshot out replies 11
