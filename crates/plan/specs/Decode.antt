-- The plan that a list of words stands for. Every list decodes to something; whether it is well formed is question 3.
use Rattle.std.specs.Prelude.{ℕ, zero, suc, Bool, ◌&&◌, ◌||◌, cond, List, [], ◌∷◌, map, get_or, take, drop, leb, eqb}
use Rattle.word.specs.Field.{kind_of, head_desks, head_transactions, parameter_count, step_count, partitioning_field}
use Rattle.word.specs.Field.{weight_field, urgent_field, table_field, column_field, row_source, fixed_row, operand_source, fixed_number}
use Rattle.plan.specs.Plan.{Source, param, fixed, Access, reads, writes, Action, sets, adds, needs, takes, Step, cell, operand, tells}
use Rattle.plan.specs.Plan.{Partitioning, by_param, unpartitioned, undecided, Transaction, Plan}

-- "0–3 that parameter, 7 the fixed" number v
abbrev pub source_by : ℕ → ℕ → Source
source_by s v = cond (eqb s 7) (fixed v) (param s)

abbrev pub row_of : ℕ → Source
row_of w = source_by (row_source w) (fixed_row w)

abbrev pub operand_of : ℕ → Source
operand_of w = source_by (operand_source w) (fixed_number w)

-- "3 read, 4 write"
unfoldable pub access_by : ℕ → Access
access_by k = cond (eqb k 3) reads writes

-- "5 set, 6 add, 7 need, 8 take"
unfoldable pub action_by : ℕ → Action
action_by k = cond (eqb k 5) sets (cond (eqb k 6) adds (cond (eqb k 7) needs takes))

-- "Kind 13 .. is a new step that tells the working number."
abbrev pub is_tell : ℕ → Bool
is_tell w = eqb (kind_of w) 13

unfoldable pub step_of : ℕ → Step
step_of w =
    cond (leb (kind_of w) 4) (cell (access_by (kind_of w)) (table_field w) (column_field w) (row_of w))
    (cond (is_tell w) tells
    (operand (action_by (kind_of w)) (operand_of w)))

-- "Let partitioning field 14 mean open"
abbrev pub open_field : ℕ
open_field = 14

-- "15 for none"
abbrev pub none_field : ℕ
none_field = 15

-- a partitioning field that names no parameter
abbrev pub names_no_parameter : ℕ → Bool
names_no_parameter q = eqb q open_field || eqb q none_field

-- "partitioning parameter (0–3, or 15 for none)"; "Let partitioning field 14 mean open"
unfoldable pub part_by : ℕ → Partitioning
part_by q = cond (eqb q none_field) unpartitioned (cond (eqb q open_field) undecided (by_param q))

-- the word of a transaction whose field is open. Behind question 3 no other word of a plan is of kind 2
abbrev pub is_open : ℕ → Bool
is_open w = eqb (kind_of w) 2 && eqb (partitioning_field w) open_field

-- the transaction whose word is w, with the words ws behind it
abbrev pub transaction_of : ℕ → List ℕ → Transaction
transaction_of w ws =
    record {
      params = parameter_count w;
      part = part_by (partitioning_field w);
      weight = weight_field w;
      urgent = eqb (urgent_field w) 1;
      steps = map step_of (take (step_count w) ws);
    }

-- the first n transactions that stand in the words
unfoldable pub transactions_of : ℕ → List ℕ → List Transaction
transactions_of zero ws = []
transactions_of (suc n) [] = []
transactions_of (suc n) (w ∷ ws) = transaction_of w ws ∷ transactions_of n (drop (step_count w) ws)

abbrev pub head_of : List ℕ → ℕ
head_of ws = get_or ws 0 0

unfoldable pub plan_of : List ℕ → Plan
plan_of ws = record { desks = head_desks (head_of ws); transactions = transactions_of (head_transactions (head_of ws)) (drop 1 ws) }
