-- Question 5 as far as a visit alone asks it, and questions 13 to 15: whose turn it is.
use Rattle.std.specs.Prelude.{ℕ, Bool, ◌&&◌, List, ltb, leb, eqb, length}
use Rattle.verdict.specs.Verdict.{Verdict, ask, ◌then◌}
use Rattle.word.specs.Field.{addressed_desk}
use Rattle.plan.specs.Decode.{head_of}
use Rattle.operation.specs.Store.{store_size}
use Rattle.frame.specs.Admission.{frame_visit}
use Rattle.desk.specs.declared.state.Desk.{Desk}
use Rattle.frame.specs.Frame.{longest_frame}
use Rattle.visits.specs.Waiting.{replies_size}

-- 5: "It refuses with 5 a bulletin that isn't exactly 1,024 words."; "for a visit, outgoing at least 6,404"; "a visit's reply buffer at
-- least 224"
unfoldable pub visit_buffers_fit : List ℕ → List ℕ → List ℕ → Bool
visit_buffers_fit snapshot out replies =
    eqb (length snapshot) store_size && (leb longest_frame (length out) && leb replies_size (length replies))

-- 13: "Is the addressed desk this one?" 14: "Is the visit the awaited one?" 15: "Is the visit below 4,294,967,295?"
unfoldable pub turn_verdict : Desk → List ℕ → Verdict
turn_verdict d frame =
    ask 13 (eqb (addressed_desk (head_of frame)) d.desk)
    then ask 14 (eqb (frame_visit frame) d.awaited)
    then ask 15 (ltb (frame_visit frame) 4294967295)
