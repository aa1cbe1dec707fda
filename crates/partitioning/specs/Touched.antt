-- The rows that desks touch, as sets of 32 bits, by which the cost is computed. There are 32 table columns, a table with a column of it.
-- Three sets for each: the rows that every desk touches, those that each desk touches where it is the row's own, which of row r is desk r
-- modulo the number of desks, and those that desk 0 touches for transactions with no partitioning.
use Rattle.std.specs.Prelude.{ℕ, ◌+◌, ◌*◌, ◌-◌, ◌/◌, ◌%◌, ◌^◌, Bool, not, ◌&&◌, cond, List, [], ◌∷◌, leb, eqb, get_or, set}
use Rattle.std.specs.Int.Bits.{bit_or}
use Rattle.word.specs.Field.{field, kind_of, row_source, fixed_row, partitioning_field}
use Rattle.plan.specs.Decode.{open_field, none_field, is_open}
use Rattle.partitioning.specs.Best.{candidate_count, candidate}

-- ---- the step in a word

-- table × 4 + column, bits 27–23
abbrev pub table_column : ℕ → ℕ
table_column = field 23 5

-- the rows that it can name
abbrev pub rows_of : ℕ → ℕ
rows_of w = cond (eqb (row_source w) 7) (2 ^ fixed_row w) (2 ^ 32 - 1)

-- which of the three sets it joins, by the partitioning field
abbrev pub group_of : ℕ → ℕ → ℕ
group_of q w = cond (eqb q none_field) 2 (cond (eqb (row_source w) q) 1 0)

abbrev pub set_of : ℕ → ℕ → ℕ
set_of q w = group_of q w * 32 + table_column w

-- a read or write step, of a kind up to 4, joins its rows under partitioning q; under an open one it joins none
unfoldable pub mark : ℕ → ℕ → List ℕ → List ℕ
mark q w t = cond (leb (kind_of w) 4 && not (eqb q open_field)) (set t (set_of q w) (bit_or (get_or t (set_of q w) 0) (rows_of w))) t

-- ---- the steps of a plan, word by word

abbrev pub is_transaction : ℕ → Bool
is_transaction w = eqb (kind_of w) 2

-- the steps of transactions that are not open
unfoldable pub mark_closed : ℕ → List ℕ → List ℕ → List ℕ
mark_closed q [] t = t
mark_closed q (w ∷ ws) t = cond (is_transaction w) (mark_closed (partitioning_field w) ws t) (mark_closed q ws (mark q w t))

-- the steps of the open ones under filling number i of n
unfoldable pub mark_open : ℕ → ℕ → ℕ → List ℕ → List ℕ → List ℕ
mark_open q n i [] t = t
mark_open q n i (w ∷ ws) t =
    cond (is_open w)
    (mark_open (candidate w (i / (n / candidate_count w))) (n / candidate_count w) (i % (n / candidate_count w)) ws t)
    (cond (is_transaction w) (mark_open open_field n i ws t)
    (mark_open q n i ws (mark q w t)))
