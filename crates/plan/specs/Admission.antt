-- Questions 1 to 4 ("questions at the door") and the refusal 17 of open fields, and the plan reader's verdict.
use Rattle.std.specs.Prelude.{ℕ, zero, suc, ◌+◌, ◌≤◌, ◌≡◌, Bool, true, false, not, ◌&&◌}
use Rattle.std.specs.Prelude.{◌||◌, List, [], ◌∷◌, map, length, take, drop, ltb, leb, eqb}
use Rattle.verdict.specs.Verdict.{Verdict, accepted, ask, ◌then◌}
use Rattle.std.specs.List.{list_all, list_any}
use Rattle.word.specs.Field.{kind_of, head_desks, head_transactions, head_words, parameter_count, step_count, partitioning_field}
use Rattle.word.specs.Reserved.{source_field, reserved_zero}
use Rattle.plan.specs.Plan.{Source, param, fixed, Step, cell, operand, tells, Partitioning, by_param, unpartitioned, undecided}
use Rattle.plan.specs.Plan.{Transaction, transaction_at}
use Rattle.plan.specs.Decode.{is_tell, is_open, names_no_parameter, step_of, head_of, transactions_of, plan_of}

-- "words in the plan (at most 417)"
abbrev pub longest_plan : ℕ
longest_plan = 417

-- 1: "Has the plan a head word of kind 1 whose count is the words handed in, 1–417?"
unfoldable pub has_head : List ℕ → Bool
has_head ws =
    leb 1 (length ws) && (leb (length ws) longest_plan
    && (eqb (kind_of (head_of ws)) 1 && eqb (head_words (head_of ws)) (length ws)))

-- 2: "Are desks and transactions in range?"
unfoldable pub counts_in_range : ℕ → Bool
counts_in_range w = leb 1 (head_desks w) && (leb (head_desks w) 8 && (leb 1 (head_transactions w) && leb (head_transactions w) 32))

-- 3, of a partitioning field: 0–3, 14 for open, 15 for none
abbrev pub partitioning_formed : ℕ → Bool
partitioning_formed q = ltb q 4 || names_no_parameter q

-- 3, of a transaction's word: kind 2, parameters 0–4, steps 1–12, the partitioning, zero bits
unfoldable pub transaction_formed : ℕ → Bool
transaction_formed w =
    eqb (kind_of w) 2 && (leb (parameter_count w) 4 && (leb 1 (step_count w) && (leb (step_count w) 12
    && (partitioning_formed (partitioning_field w) && reserved_zero w))))

-- 3, of a step's word: kind 3–8 or 13, source 0–3 or 7, zero bits
unfoldable pub step_formed : ℕ → Bool
step_formed w =
    ((leb 3 (kind_of w) && leb (kind_of w) 8) || is_tell w) && ((ltb (source_field w) 4 || eqb (source_field w) 7) && reserved_zero w)

-- how many steps tell: 1 for each
abbrev pub one_if_tells : Step → ℕ
one_if_tells (cell a t c r) = 0
one_if_tells (operand a o) = 0
one_if_tells tells = 1

unfoldable pub tell_count : List Step → ℕ
tell_count [] = 0
tell_count (s ∷ ss) = one_if_tells s + tell_count ss

-- "It refuses with 3 a transaction with more than four such steps."
abbrev pub most_tells : ℕ
most_tells = 4

-- 3, of a step behind so many that tell
abbrev pub step_fits : ℕ → ℕ → Bool
step_fits before w = step_formed w && leb (before + one_if_tells (step_of w)) most_tells

-- 3: "Does each further word have its place, kind, ranges and zero bits, and does the last step end the plan?"
-- The words are n well-formed transactions, each with all its steps, at most four of which tell, and nothing more
unfoldable pub well_formed : ℕ → List ℕ → Bool
well_formed zero [] = true
well_formed zero (w ∷ ws) = false
well_formed (suc n) [] = false
well_formed (suc n) (w ∷ ws) =
    transaction_formed w && (leb (step_count w) (length ws)
    && (list_all step_formed (take (step_count w) ws)
    && (leb (tell_count (map step_of (take (step_count w) ws))) most_tells && well_formed n (drop (step_count w) ws))))

-- 4: "Does every parameter named in a step or for partitioning exist?" Parameter i exists if i is below the count; an open field names none
unfoldable pub source_exists : ℕ → Source → Bool
source_exists count (param i) = ltb i count
source_exists count (fixed v) = true

unfoldable pub step_exists : ℕ → Step → Bool
step_exists count (cell a t c r) = source_exists count r
step_exists count (operand a o) = source_exists count o
step_exists count tells = true

unfoldable pub part_exists : ℕ → Partitioning → Bool
part_exists count (by_param i) = ltb i count
part_exists count unpartitioned = true
part_exists count undecided = true

unfoldable pub parameters_exist : Transaction → Bool
parameters_exist t = part_exists t.params t.part && list_all (step_exists t.params) t.steps

-- ---- the verdict

-- questions 3 and 4 of n transactions in the words behind the head
unfoldable pub transactions_verdict : ℕ → List ℕ → Verdict
transactions_verdict n ws = ask 3 (well_formed n ws) then ask 4 (list_all parameters_exist (transactions_of n ws))

-- "All of one question is put before the next": questions 1 to 4, which a plan with open fields can pass
unfoldable pub open_plan_verdict : List ℕ → Verdict
open_plan_verdict ws =
    ask 1 (has_head ws)
    then ask 2 (counts_in_range (head_of ws))
    then transactions_verdict (head_transactions (head_of ws)) (drop 1 ws)

-- the partitioning is no open field
abbrev pub part_decided : Partitioning → Bool
part_decided (by_param i) = true
part_decided unpartitioned = true
part_decided undecided = false

abbrev pub decided : Transaction → Bool
decided t = part_decided t.part

-- "any other call refuses an open field with 17 .. after question 4": the verdict on a plan, of every call but the chooser
unfoldable pub plan_verdict : List ℕ → Verdict
plan_verdict ws = open_plan_verdict ws then ask 17 (list_all decided (plan_of ws).transactions)

-- a word is open, as `is_open` finds it, exactly if not all transactions are decided
abbrev pub OpenFound : Type 0
OpenFound = (ws : List ℕ) → open_plan_verdict ws ≡ accepted → list_all decided (plan_of ws).transactions ≡ not (list_any is_open ws)

-- "It refuses with 3 a transaction with more than four such steps.": no transaction of a plan that is accepted has more
abbrev pub TellsFew : Type 0
TellsFew = (ws : List ℕ) → plan_verdict ws ≡ accepted → (k : ℕ) → tell_count (transaction_at (plan_of ws) k).steps ≤ most_tells

-- "words in the plan (at most 417)": 32 transactions of 12 steps each, behind the head
abbrev pub WellFormedFits : Type 0
WellFormedFits = (n : ℕ) (ws : List ℕ) → n ≤ 32 → well_formed n ws ≡ true → 1 + length ws ≤ longest_plan
