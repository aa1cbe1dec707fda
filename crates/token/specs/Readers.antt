-- The two calls of the frame reader never disagree, and the starting frame reads as visit 0 with no update.
use Rattle.std.specs.Prelude.{◌≡◌, List, [], ℕ, ◌≤◌}
use Rattle.plan.specs.Decode.{plan_of}
use Rattle.frame.specs.Frame.{updates_words, starting_frame}
use Rattle.frame.specs.Admission.{frame_updates, read_verdict, ReadsAs}
use Rattle.frame.specs.Answer.{part_read, visit_number, refusal, visit_read}

-- where one call refuses, the other hands back the empty part; where it gives a visit, the frame reads as that visit and some updates,
-- and the part that the other hands back is their words
pub record Agree (plan frame : List ℕ) : Type 0 where
  pub refusing : (q : ℕ) → visit_read (read_verdict plan frame) frame ≡ refusal q → part_read (read_verdict plan frame) frame ≡ []
  pub reading : (v : ℕ) → visit_read (read_verdict plan frame) frame ≡ visit_number v
      → ReadsAs (plan_of plan).desks frame v (frame_updates frame)
      × (part_read (read_verdict plan frame) frame ≡ updates_words (frame_updates frame))

-- "A second call, with the same questions"
abbrev pub ReadersAgree : Type 0
ReadersAgree = (plan frame : List ℕ) → Agree plan frame

-- "The starting frame is visit 0 with no update", for any number of desks
abbrev pub StartingReads : Type 0
StartingReads = (n : ℕ) → 1 ≤ n → n ≤ 8 → ReadsAs n starting_frame 0 []
