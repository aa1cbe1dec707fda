-- What the two calls of the frame reader answer, in the paper's numbers and values.
use Rattle.std.specs.Prelude.{ℕ, List, [], Result, Ok, Err}
use Rattle.verdict.specs.Verdict.{Verdict, if_accepted, question_of}
use Rattle.frame.specs.Admission.{updates_part, frame_visit}
use Rattle.verdict.specs.declared.Refusal.{Refusal}

-- "Reading a frame gives back the part of it that holds the updates"; "a frame reader hands back the empty part"
abbrev pub part_read : Verdict → List ℕ → List ℕ
part_read v frame = if_accepted v (updates_part frame) (λ question. [])

-- "A second call, with the same questions, gives the visit number or the refusal's number."
pub data VisitRead : Type 0 where
  visit_number : ℕ → VisitRead
  refusal : ℕ → VisitRead

abbrev pub visit_read : Verdict → List ℕ → VisitRead
visit_read v frame = if_accepted v (visit_number (frame_visit frame)) refusal

abbrev pub visit_of : Result ℕ Refusal → VisitRead
visit_of (Ok number) = visit_number number
visit_of (Err r) = refusal (question_of r)
