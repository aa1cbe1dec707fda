-- What questions 7 and 8 give of an operation, and what makes one.
-- Assumes nothing.
use mathlib.Core.Path.{◌≡◌}
use mathlib.Core.Bool.{true}
use mathlib.Core.List.{List}
use Prim.Native.Nat.{ℕ, ◌^◌, ◌<◌}
use lib.Dec.{ltb}
use lib.ListN.{length, get_or}
use borrow.Author.Tests.{ltb-true, lt-ltb}
use Rattle.verdict.proofs.Verdicts.{ask_accepted, ask_then_accepted}
use Rattle.std.specs.List.{list_all}
use Rattle.lists.proofs.Laws.{and_snd}
use Rattle.plan.specs.Plan.{Plan, transaction_at}
use Rattle.operation.specs.Operation.{Operation, operation, transaction_of}
use Rattle.operation.specs.Admission.{IsOperation, operation_verdict, transaction_exists, parameters_pass, unused_zero, row_in_range}

module _ (p : Plan) (o : Operation) (i : IsOperation p o) where
  -- 7
  pub transaction_below : o.transaction < length p.transactions
  unfolding operation_verdict transaction_exists
  transaction_below = ltb-true _ _ (ask_then_accepted 7 (ltb o.transaction (length p.transactions)) _ i.passes).0

  -- 8
  pub parameters_passed : parameters_pass (transaction_of p o) o.params ≡ true
  unfolding operation_verdict
  parameters_passed =
      ask_accepted 8 (parameters_pass (transaction_of p o) o.params)
      (ask_then_accepted 7 (transaction_exists p o.transaction) _ i.passes).1

  pub rows_passed : list_all (row_in_range o.params) (transaction_of p o).steps ≡ true
  unfolding parameters_pass
  rows_passed = and_snd (unused_zero (transaction_of p o).params o.params) _ parameters_passed

pub is_operation_lem : (p : Plan) (k : ℕ) (ps : List ℕ) → length ps ≡ 4 → ((i : ℕ) → get_or ps i 0 < 2 ^ 32) → k < length p.transactions
    → parameters_pass (transaction_at p k) ps ≡ true → IsOperation p (operation k ps)
unfolding operation_verdict transaction_exists
is_operation_lem p k ps four words h e = record {
  four = four;
  words = words;
  passes = rw (lt-ltb k (length p.transactions) h, e);
}
