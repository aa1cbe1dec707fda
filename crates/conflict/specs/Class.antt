-- Free, local and global, as 01 defines them over all operations; the terms of 002, section 3.2; and the class, computed.
-- Free is narrower than the commutative class of 002: an operation that writes is never free here.
use Rattle.std.specs.Prelude.{ℕ, ◌≡◌, Bool, true, false, cond, List, eqb}
use Rattle.std.specs.Int.Count.{ones}
use Rattle.std.specs.List.{list_all, list_any}
use Rattle.plan.specs.Plan.{reads, writes, Step, cell, operand, tells, Transaction, Plan}
use Rattle.operation.specs.Operation.{Operation, transaction_of, desk_of, cells_named, MayRead, MayWrite, MayTouch}
use Rattle.operation.specs.Admission.{IsOperation}
use Rattle.conflict.specs.Touch.{desk_mask}
use Rattle.conflict.specs.Written.{written}

-- ---- over all operations

-- the two operations have different desks
abbrev pub OtherDesk : Plan → Operation → Operation → Type 0
OtherDesk p o o' = desk_of p o' ≡ desk_of p o → ⊥

-- "Free: it may write no cell, and no operation of the plan may write a cell it may read."
abbrev pub Free : Plan → Operation → Type 0
Free p o =
    ((c : ℕ) → MayWrite p o c → ⊥)
    × ((c : ℕ) → MayRead p o c → (o' : Operation) → IsOperation p o' → MayWrite p o' c → ⊥)

-- "Local: not free, and no operation of another desk may touch a cell it may write."
abbrev pub Local : Plan → Operation → Type 0
Local p o =
    (Free p o → ⊥)
    × ((c : ℕ) → MayWrite p o c → (o' : Operation) → IsOperation p o' → OtherDesk p o o' → MayTouch p o' c → ⊥)

-- "Global: every other."
abbrev pub Global : Plan → Operation → Type 0
Global p o = (Free p o → ⊥) × (Local p o → ⊥)

-- "Just one desk may touch it": an operation of desk d may, and every one that may is of desk d
abbrev pub JustOne : Plan → ℕ → ℕ → Type 0
JustOne p c d =
    ((o : Operation) × IsOperation p o × (desk_of p o ≡ d) × MayTouch p o c)
    × ((o : Operation) → IsOperation p o → MayTouch p o c → desk_of p o ≡ d)

-- ---- 002, "Operation conflicts"

-- "Two operation o_1 and o_2 have a write conflict if their write sets intersect"
abbrev pub WriteConflict : Plan → Operation → Operation → Type 0
WriteConflict p o o' = (c : ℕ) × MayWrite p o c × MayWrite p o' c

-- "We say that o_1 reads from o_2 if R(o_1) ∩ W(o_2) ≠ ∅"
abbrev pub ReadsFrom : Plan → Operation → Operation → Type 0
ReadsFrom p o o' = (c : ℕ) × MayRead p o c × MayWrite p o' c

-- ---- computed

pub data Class : Type 0 where
  free local global : Class

abbrev pub is_free : Class → Bool
is_free free = true
is_free local = false
is_free global = false

abbrev pub is_global : Class → Bool
is_global free = false
is_global local = false
is_global global = true

abbrev pub is_write : Step → Bool
is_write (cell reads table column row) = false
is_write (cell writes table column row) = true
is_write (operand f v) = false
is_write tells = false

-- "the number of desks is the count of ones in it": each of the cells has one desk in its mask
abbrev pub one_desk_each : (ℕ → ℕ) → List ℕ → Bool
one_desk_each mask cs = list_all (λ c. eqb (ones (mask c)) 1) cs

-- writing: local if just one desk may touch each cell that it writes. Writing nothing: free unless some operation may write what it reads
unfoldable pub class_by : Plan → Transaction → List ℕ → Class
class_by p t ps =
    cond (list_any is_write t.steps)
    (cond (one_desk_each (desk_mask p) (cells_named writes ps t.steps)) local global)
    (cond (list_any (written p) (cells_named reads ps t.steps)) local free)

abbrev pub class_of : Plan → Operation → Class
class_of p o = class_by p (transaction_of p o) o.params
