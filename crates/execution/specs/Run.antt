-- "Running a transaction": the reply and the update of a run on a store (01: a book).
use Rattle.std.specs.Prelude.{ℕ, ◌+◌, ◌-◌, Bool, true, false, cond, List, [], ◌∷◌, ◌++◌, get_or, set, leb}
use Rattle.plan.specs.Plan.{reads, writes, Action, sets, adds, needs, takes, Step, cell, operand, tells, Transaction, Plan}
use Rattle.operation.specs.Operation.{Operation, transaction_of, value_of, cell_number}
use Rattle.operation.specs.Store.{Store, Update}
use Rattle.execution.specs.declared.outcome.Reply as code

-- "The reply is done or declined, with the working number at the end or stop."; "A reply gains four words, the told numbers": the code's
-- own struct
abbrev pub Reply : Type 0
Reply = code.Reply

pub record Outcome : Type 0 where
  pub reply : Reply
  pub update : Update

-- "the told numbers in order, zero where untold". There are at most four: question 3, and `TellsFew` of `plan`
abbrev pub reply_with : Bool → ℕ → List ℕ → Reply
reply_with done x ts =
    record { done = done; number = x; told0 = get_or ts 0 0; told1 = get_or ts 1 0; told2 = get_or ts 2 0; told3 = get_or ts 3 0 }

abbrev pub finished : ℕ → List ℕ → Update → Outcome
finished x ts u = record { reply = reply_with true x ts; update = u }

-- "A declined run writes nothing."; "a declined run gives those told before the stop"
abbrev pub declined : ℕ → List ℕ → Outcome
declined x ts = record { reply = reply_with false x ts; update = [] }

-- what an action makes of the accumulator (01: the working number), or a stop
pub data Next : Type 0 where
  continues : ℕ → Next
  stops : Next

-- "Set makes it the operand; add adds the operand and take subtracts it"; "an add whose sum exceeds 4,294,967,295, and a take below zero,
-- declines the run". "Need declines the run unless the working number is at least the operand; equal passes."
unfoldable pub act : Action → ℕ → ℕ → Next
act sets x v = continues v
act adds x v = cond (leb (x + v) 4294967295) (continues (x + v)) stops
act takes x v = cond (leb v x) (continues (x - v)) stops
act needs x v = cond (leb v x) (continues x) stops

abbrev pub onward : Next → (ℕ → Outcome) → Outcome → Outcome
onward (continues x) go stop = go x
onward stops go stop = stop

-- the steps still to run, on the store with this run's own earlier writes, with the accumulator x, the told numbers and the update so far.
-- "Read loads a cell into it, seeing this run's own earlier writes. Write stores the working number in a cell."; kind 13 "tells the working
-- number"
unfoldable pub run_from : List ℕ → List Step → Store → ℕ → List ℕ → Update → Outcome
run_from ps [] s x ts u = finished x ts u
run_from ps (cell reads table column row ∷ ss) s x ts u = run_from ps ss s (get_or s (cell_number table (value_of ps row) column) 0) ts u
run_from ps (cell writes table column row ∷ ss) s x ts u =
    run_from ps ss (set s (cell_number table (value_of ps row) column) x) x ts
    (u ++ ((cell_number table (value_of ps row) column, x) ∷ []))
run_from ps (operand f v ∷ ss) s x ts u = onward (act f x (value_of ps v)) (λ y. run_from ps ss s y ts u) (declined x ts)
run_from ps (tells ∷ ss) s x ts u = run_from ps ss s x (ts ++ (x ∷ [])) u

-- "One working number begins at 0."
abbrev pub run_transaction : Transaction → List ℕ → Store → Outcome
run_transaction t ps s = run_from ps t.steps s 0 [] []

abbrev pub run : Plan → Operation → Store → Outcome
run p o s = run_transaction (transaction_of p o) o.params s
