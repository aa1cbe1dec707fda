-- What the answer to the new desk call says in the paper's numbers and values, and what it is.
use Rattle.std.specs.Prelude.{ℕ, List, ltb, Result, Ok, Err}
use Rattle.verdict.specs.Verdict.{ask, ◌then◌, if_accepted, question_of}
use Rattle.plan.specs.Decode.{plan_of}
use Rattle.plan.specs.Admission.{plan_verdict}
use Rattle.desk.specs.declared.state.Desk.{Desk}
use Rattle.verdict.specs.declared.Refusal.{Refusal}

-- a new desk, or the number of the question whose answer is no
pub data Opened : Type 0 where
  opened : Desk → Opened
  opening_refused : ℕ → Opened

abbrev pub opened_of : Result Desk Refusal → Opened
opened_of (Ok d) = opened d
opened_of (Err r) = opening_refused (question_of r)

-- "A new desk p awaits p with none waiting"
abbrev pub new_desk : ℕ → Desk
new_desk p = record { desk = p; waiting = 0; awaited = p }

-- "New desk: 1–4, and 6 for its desk.", with 17 after 4
unfoldable pub new_desk_result : List ℕ → ℕ → Opened
new_desk_result ws p = if_accepted (plan_verdict ws then ask 6 (ltb p (plan_of ws).desks)) (opened (new_desk p)) opening_refused
