-- The fields of a word. Bit 0 is lowest; the field of `count` bits from bit `low` on is `w / 2 ^ low % 2 ^ count`.
use Rattle.std.specs.Prelude.{ℕ, ◌/◌, ◌%◌, ◌^◌}

abbrev pub field : ℕ → ℕ → ℕ → ℕ
field low count w = w / 2 ^ low % 2 ^ count

-- "Plan words, kind in bits 31–28"; a frame's words have theirs there too
abbrev pub kind_of : ℕ → ℕ
kind_of w = w / 2 ^ 28

-- ---- "1, head: bits 27–24 desks (1–8), 23–16 transactions (1–32), 15–0 words in the plan (at most 417)"

abbrev pub head_desks : ℕ → ℕ
head_desks = field 24 4

abbrev pub head_transactions : ℕ → ℕ
head_transactions = field 16 8

abbrev pub head_words : ℕ → ℕ
head_words w = w % 2 ^ 16

-- ---- "2, transaction: 27–24 parameters (0–4), 23–20 steps (1–12), 19–16 partitioning parameter (0–3, or 15 for none)"; "Let partitioning
-- field 14 mean open, and bits 15–8 of a transaction word be its weight"; "Bit 7 of a transaction word marks it urgent."

abbrev pub parameter_count : ℕ → ℕ
parameter_count = field 24 4

abbrev pub step_count : ℕ → ℕ
step_count = field 20 4

abbrev pub partitioning_field : ℕ → ℕ
partitioning_field = field 16 4

abbrev pub weight_field : ℕ → ℕ
weight_field = field 8 8

abbrev pub urgent_field : ℕ → ℕ
urgent_field = field 7 1

-- ---- "3 read, 4 write: 27–25 table, 24–23 column, 22–20 row source (0–3 that parameter, 7 the fixed row in bits 4–0)"

abbrev pub table_field : ℕ → ℕ
table_field = field 25 3

abbrev pub column_field : ℕ → ℕ
column_field = field 23 2

abbrev pub row_source : ℕ → ℕ
row_source = field 20 3

abbrev pub fixed_row : ℕ → ℕ
fixed_row w = w % 2 ^ 5

-- ---- "5 set, 6 add, 7 need, 8 take: 27–25 source (0–3 that parameter, 7 the fixed number in bits 24–0)"

abbrev pub operand_source : ℕ → ℕ
operand_source = field 25 3

abbrev pub fixed_number : ℕ → ℕ
fixed_number w = w % 2 ^ 25

-- ---- "Word 0: kind 9, 27–24 desk addressed, 23–16 zero, 15–0 words in the frame (4–6,404)."

abbrev pub addressed_desk : ℕ → ℕ
addressed_desk = field 24 4

abbrev pub frame_length : ℕ → ℕ
frame_length w = w % 2 ^ 16

-- ---- "kind 10 (27–24 desk, 23–20 cells 0–12, rest zero), and per cell a word of kind 11 (bits 9–0 the cell, rest zero)"

abbrev pub update_desk : ℕ → ℕ
update_desk = field 24 4

abbrev pub cell_count : ℕ → ℕ
cell_count = field 20 4

abbrev pub cell_field : ℕ → ℕ
cell_field w = w % 2 ^ 10
