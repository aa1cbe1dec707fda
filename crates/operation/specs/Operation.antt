-- Operations of a plan: the desk of one, and the cells that it may read and write.
use Rattle.std.specs.Prelude.{ℕ, ◌+◌, ◌*◌, ◌%◌, Bool, true, false, cond, ◌⊎◌, get_or}
use mathlib.Core.List.{List, [], ◌∷◌, Memᴰ}
use Rattle.plan.specs.Plan.{Source, param, fixed, Access, reads, writes, Step, cell, operand, tells}
use Rattle.plan.specs.Plan.{Partitioning, by_param, unpartitioned, undecided, Transaction, Plan, transaction_at}

-- the number of a transaction, and parameter words
pub record Operation : Type 0 where
  pub transaction : ℕ
  pub params : List ℕ

abbrev pub operation : ℕ → List ℕ → Operation
operation k ps = record { transaction = k; params = ps }

abbrev pub transaction_of : Plan → Operation → Transaction
transaction_of p o = transaction_at p o.transaction

-- the value of a row or an operand under the parameter words
abbrev pub value_of : List ℕ → Source → ℕ
value_of ps (param i) = get_or ps i 0
value_of ps (fixed v) = v

-- "Its desk is the partitioning parameter modulo the number of desks, or 0 if none." As long as it is open it names none
abbrev pub desk_by : ℕ → Partitioning → List ℕ → ℕ
desk_by n (by_param q) ps = get_or ps q 0 % n
desk_by n unpartitioned ps = 0
desk_by n undecided ps = 0

abbrev pub desk_of : Plan → Operation → ℕ
desk_of p o = desk_by p.desks (transaction_of p o).part o.params

-- "Bit 7 of a transaction word marks it urgent.": an operation is urgent if its transaction is
abbrev pub urgent_of : Plan → Operation → Bool
urgent_of p o = (transaction_of p o).urgent

-- "Cell number = table × 128 + row × 4 + column"
abbrev pub cell_number : ℕ → ℕ → ℕ → ℕ
cell_number table row column = table * 128 + row * 4 + column

abbrev pub same_access : Access → Access → Bool
same_access reads reads = true
same_access reads writes = false
same_access writes reads = false
same_access writes writes = true

-- "the cells of all its read or write steps, run or not", in step order
unfoldable pub cells_named : Access → List ℕ → List Step → List ℕ
cells_named a ps [] = []
cells_named a ps (cell b table column row ∷ ss) =
    cond (same_access a b) (cell_number table (value_of ps row) column ∷ cells_named a ps ss) (cells_named a ps ss)
cells_named a ps (operand f v ∷ ss) = cells_named a ps ss
cells_named a ps (tells ∷ ss) = cells_named a ps ss

-- the read set and the write set (002, "Operation conflicts")
abbrev pub read_set : Plan → Operation → List ℕ
read_set p o = cells_named reads o.params (transaction_of p o).steps

abbrev pub write_set : Plan → Operation → List ℕ
write_set p o = cells_named writes o.params (transaction_of p o).steps

-- "It may read or write the cells of all its read or write steps, run or not. Touching is either."
abbrev pub MayRead : Plan → Operation → ℕ → Type 0
MayRead p o c = Memᴰ c (read_set p o)

abbrev pub MayWrite : Plan → Operation → ℕ → Type 0
MayWrite p o c = Memᴰ c (write_set p o)

abbrev pub MayTouch : Plan → Operation → ℕ → Type 0
MayTouch p o c = MayRead p o c ⊎ MayWrite p o c
