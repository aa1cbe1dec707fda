-- The verdict of the questions at the door: 'A "no" gives its number'.
--     question_of     the number of the question that each refusal of the code stands for
--     verdict_of      what a result of the code says in the paper's numbers
--     ask             one question, by its number and its answer
--     ◌then◌          "All of one question is put before the next": the next is put only behind a yes
--     if_accepted     by cases: a value where accepted, and what a refusal's number gives
use Rattle.std.specs.Prelude.{ℕ, Bool, true, false, cond, Result, Ok, Err}
use Rattle.verdict.specs.declared.Refusal.{Refusal}
use Rattle.verdict.specs.declared.Refusal.TheVariants as refusal

infixr 10 ◌then◌
pub data Verdict : Type 0 where
  accepted : Verdict
  refused : ℕ → Verdict

abbrev pub question_of : Refusal → ℕ
question_of refusal.NoPlan = 1
question_of refusal.CountOutOfRange = 2
question_of refusal.MalformedWord = 3
question_of refusal.MissingParameter = 4
question_of refusal.WrongSize = 5
question_of refusal.MisfitState = 6
question_of refusal.NoTransaction = 7
question_of refusal.ParameterOutOfRange = 8
question_of refusal.QueueFull = 9
question_of refusal.NoFrame = 10
question_of refusal.WrongSum = 11
question_of refusal.MalformedUpdates = 12
question_of refusal.OtherDesk = 13
question_of refusal.OtherVisit = 14
question_of refusal.LastVisit = 15
question_of refusal.ManyOpenFields = 16
question_of refusal.OpenField = 17

abbrev pub verdict_of : {A : Type 0} → Result A Refusal → Verdict
verdict_of (Ok value) = accepted
verdict_of (Err r) = refused (question_of r)

abbrev pub ask : ℕ → Bool → Verdict
ask question answer = cond answer accepted (refused question)

abbrev pub if_accepted : {A : Type 0} → Verdict → A → (ℕ → A) → A
if_accepted accepted value otherwise = value
if_accepted (refused question) value otherwise = otherwise question

abbrev pub ◌then◌ : Verdict → Verdict → Verdict
v then next = if_accepted v next refused

-- "Accepted means not refused."
abbrev pub is_accepted : Verdict → Bool
is_accepted v = if_accepted v true (λ question. false)
