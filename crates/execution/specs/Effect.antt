-- What a run reads and what it writes.
--     ReadsDecide       a run depends on the cells of its read steps only, in all that it answers, tells and writes
--     DoneWrites        one that is done writes the cells of its write steps, in order
--     DeclinedWrites    one that is declined writes nothing
--     WritesWithin      what it writes is in its write set
use Rattle.std.specs.Prelude.{◌≡◌, true, false, ℕ, length, get_or}
use mathlib.Core.List.{List, [], map, Memᴰ}
use Rattle.plan.specs.Plan.{reads, writes, Transaction}
use Rattle.operation.specs.Operation.{cells_named}
use Rattle.operation.specs.Store.{Store, Update}
use Rattle.execution.specs.Run.{run_transaction}

-- the cells that an update writes
abbrev pub cells_of : Update → List ℕ
cells_of u = map (λ w. w.0) u

-- "It may read .. the cells of all its read .. steps": no other cell has a part in the reply, with its told numbers, or in the update
abbrev pub ReadsDecide : Type 0
ReadsDecide = (t : Transaction) (ps : List ℕ) (a b : Store) → length a ≡ length b
    → ((c : ℕ) → Memᴰ c (cells_named reads ps t.steps) → get_or a c 0 ≡ get_or b c 0)
    → run_transaction t ps a ≡ run_transaction t ps b

-- "the list of written cells and values in step order"
abbrev pub DoneWrites : Type 0
DoneWrites = (t : Transaction) (ps : List ℕ) (s : Store) → (run_transaction t ps s).reply.done ≡ true
    → cells_of (run_transaction t ps s).update ≡ cells_named writes ps t.steps

-- "A declined run writes nothing."
abbrev pub DeclinedWrites : Type 0
DeclinedWrites = (t : Transaction) (ps : List ℕ) (s : Store) → (run_transaction t ps s).reply.done ≡ false
    → (run_transaction t ps s).update ≡ []

-- "It may .. write the cells of all its .. write steps"
abbrev pub WritesWithin : Type 0
WritesWithin = (t : Transaction) (ps : List ℕ) (s : Store) (w : ℕ × ℕ) → Memᴰ w (run_transaction t ps s).update
    → Memᴰ w.0 (cells_named writes ps t.steps)
