-- The mask of a cell, computed: "The desks whose operations may touch a cell form a mask".
use Rattle.std.specs.Prelude.{ℕ, ◌/◌, ◌%◌, ◌<◌, ◌≡◌, Bool, false, ◌&&◌, cond, List, length, get_or, ltb, eqb}
use Rattle.std.specs.Int.Bits.{bit_or}
use Rattle.std.specs.List.{list_any}
use Rattle.lists.specs.Lists.{tabulate}
use Rattle.plan.specs.Plan.{Source, param, fixed, Step, cell, operand, tells}
use Rattle.plan.specs.Plan.{Partitioning, by_param, unpartitioned, undecided, Transaction, Plan}
use Rattle.conflict.specs.Mask.{mask_of}
use Rattle.operation.specs.Store.{store_size}

-- with n desks, some operation of desk d gives this row to the source: with no partitioning, or an open one, desk 0 alone has operations;
-- where the row is the partitioning parameter, row r is at desk r mod n; else every desk has one
unfoldable pub row_touched : ℕ → Partitioning → Source → ℕ → ℕ → Bool
row_touched n unpartitioned (fixed v) row d = eqb row v && eqb d 0
row_touched n unpartitioned (param i) row d = eqb d 0
row_touched n undecided (fixed v) row d = eqb row v && eqb d 0
row_touched n undecided (param i) row d = eqb d 0
row_touched n (by_param q) (fixed v) row d = eqb row v && ltb d n
row_touched n (by_param q) (param i) row d = cond (eqb i q) (eqb d (row % n)) (ltb d n)

-- cell number = table × 128 + row × 4 + column
unfoldable pub cell_touched : ℕ → Partitioning → ℕ → ℕ → Source → ℕ → ℕ → Bool
cell_touched n part table column row c d =
    eqb (c / 128) table && (eqb (c % 4) column && row_touched n part row (c / 4 % 32) d)

-- "Touching is either": a read and a write step alike
unfoldable pub step_touches : ℕ → Partitioning → Step → ℕ → ℕ → Bool
step_touches n part (cell a table column row) c d = cell_touched n part table column row c d
step_touches n part (operand f v) c d = false
step_touches n part tells c d = false

abbrev pub steps_touch : ℕ → Partitioning → List Step → ℕ → ℕ → Bool
steps_touch n part ss c d = list_any (λ s. step_touches n part s c d) ss

abbrev pub transactions_touch : ℕ → List Transaction → ℕ → ℕ → Bool
transactions_touch n ts c d = list_any (λ t. steps_touch n t.part t.steps c d) ts

-- the mask of the desks with an operation that may touch the cell
unfoldable pub desk_mask : Plan → ℕ → ℕ
desk_mask p c = mask_of p.desks (transactions_touch p.desks p.transactions c)

-- "The masks fill a table of 1,024 entries"
abbrev pub mask_table : Plan → List ℕ
mask_table p = tabulate store_size (desk_mask p)

-- the table and the column of a step keep within their bits, as those that a word has do
abbrev pub InBits : Step → Type 0
InBits (cell a table column row) = (table < 8) × (column < 4)
InBits (operand f v) = Unit {0}
InBits tells = Unit {0}

-- the table l is l₀ with the mask m of each cell joined to it
pub record Joined (l₀ l : List ℕ) (m : ℕ → ℕ) : Type 0 where
  pub long : length l ≡ store_size
  pub cells : (c : ℕ) → c < store_size → get_or l c 0 ≡ bit_or (get_or l₀ c 0) (m c)
