-- Questions 7 and 8: which requests are operations.
use Rattle.std.specs.Prelude.{ℕ, ◌^◌, ◌<◌, ◌≡◌, Bool, true, ◌&&◌, List, length, get_or, drop, ltb, leb, eqb}
use Rattle.verdict.specs.Verdict.{Verdict, accepted, ask, ◌then◌}
use Rattle.std.specs.List.{list_all}
use Rattle.plan.specs.Plan.{param, fixed, Step, cell, operand, tells, Transaction, Plan}
use Rattle.operation.specs.Operation.{Operation, transaction_of}

-- 7: "Does the transaction exist?"
unfoldable pub transaction_exists : Plan → ℕ → Bool
transaction_exists p k = ltb k (length p.transactions)

-- 8: "Are unused parameters zero", those whose number is not below the count
unfoldable pub unused_zero : ℕ → List ℕ → Bool
unused_zero count ps = list_all (λ w. eqb w 0) (drop count ps)

-- 8: "and those used as rows at most 31?"
unfoldable pub row_in_range : List ℕ → Step → Bool
row_in_range ps (cell a t c (param i)) = leb (get_or ps i 0) 31
row_in_range ps (cell a t c (fixed v)) = true
row_in_range ps (operand f v) = true
row_in_range ps tells = true

unfoldable pub parameters_pass : Transaction → List ℕ → Bool
parameters_pass t ps = unused_zero t.params ps && list_all (row_in_range ps) t.steps

unfoldable pub operation_verdict : Plan → Operation → Verdict
operation_verdict p o = ask 7 (transaction_exists p o.transaction) then ask 8 (parameters_pass (transaction_of p o) o.params)

-- "An operation is a transaction with four parameter words that pass questions 7 and 8"
pub record IsOperation (p : Plan) (o : Operation) : Type 0 where
  pub four : length o.params ≡ 4
  pub words : (i : ℕ) → get_or o.params i 0 < 2 ^ 32
  pub passes : operation_verdict p o ≡ accepted
