-- What a verdict shows: each question's yes, and where the words of a frame stand.
-- Assumes nothing.
use Rattle.std.proofs.Common.{◌≡◌, ℕ, ◌≤◌, true, eqb, leb, List, length, eqb-true, leb-true}
use Rattle.verdict.specs.Verdict.{Verdict, accepted, refused}
use Rattle.verdict.proofs.Verdicts.{then_accepted, ask_accepted, ask_then_accepted}
use Rattle.lists.proofs.Laws.{and_fst, and_snd}
use Rattle.word.specs.Field.{kind_of, frame_length, head_desks}
use Rattle.word.specs.Reserved.{reserved_zero}
use Rattle.plan.specs.Decode.{head_of, plan_of}
use Rattle.plan.specs.Admission.{plan_verdict}
use Rattle.plan.proofs.Accepted.{accepted_gives}
use Rattle.frame.specs.Admission.{frame_headed, sums_right, updates_right, frame_verdict, read_verdict}
use Rattle.frame.specs.Frame.{longest_frame}

-- 10
pub record Headed (ws : List ℕ) : Type 0 where
  pub low : 4 ≤ length ws
  pub high : length ws ≤ longest_frame
  pub kind : kind_of (head_of ws) ≡ 9
  pub zeros : reserved_zero (head_of ws) ≡ true
  pub count : frame_length (head_of ws) ≡ length ws

pub headed : (ws : List ℕ) → frame_headed ws ≡ true → Headed ws
unfolding frame_headed
headed ws e =
    let high = and_snd (leb 4 (length ws)) _ e in
    let kind = and_snd (leb (length ws) longest_frame) _ high in
    let zeros = and_snd (eqb (kind_of (head_of ws)) 9) _ kind in
    record {
      low = leb-true 4 (length ws) (and_fst _ _ e);
      high = leb-true (length ws) longest_frame (and_fst _ _ high);
      kind = eqb-true (kind_of (head_of ws)) 9 (and_fst _ _ kind);
      zeros = and_fst (reserved_zero (head_of ws)) _ zeros;
      count = eqb-true (frame_length (head_of ws)) (length ws) (and_snd (reserved_zero (head_of ws)) _ zeros);
    }

-- 10 to 12
pub record Admitted (n : ℕ) (ws : List ℕ) : Type 0 where
  pub head : frame_headed ws ≡ true
  pub sums : sums_right ws ≡ true
  pub updates : updates_right n ws ≡ true

pub admitted : (n : ℕ) (ws : List ℕ) → frame_verdict n ws ≡ accepted → Admitted n ws
unfolding frame_verdict
admitted n ws e =
    let q10 = ask_then_accepted 10 (frame_headed ws) _ e in
    let q11 = ask_then_accepted 11 (sums_right ws) _ q10.1 in
    record { head = q10.0; sums = q11.0; updates = ask_accepted 12 (updates_right n ws) q11.1 }

pub read_accepted : (plan frame : List ℕ) → read_verdict plan frame ≡ accepted
    → (plan_verdict plan ≡ accepted) × (frame_verdict (plan_of plan).desks frame ≡ accepted)
unfolding read_verdict
read_accepted plan frame e = then_accepted (plan_verdict plan) (frame_verdict (plan_of plan).desks frame) e

pub frame_length_low : (n : ℕ) (frame : List ℕ) → frame_verdict n frame ≡ accepted → 4 ≤ length frame
frame_length_low n frame e = (headed frame (admitted n frame e).head).low

-- the frame's verdict behind the plan's
pub read_after : (plan frame : List ℕ) (v : Verdict) → plan_verdict plan ≡ accepted → v ≡ frame_verdict (plan_of plan).desks frame
    → v ≡ read_verdict plan frame
unfolding read_verdict
read_after plan frame v p e = rw p e
