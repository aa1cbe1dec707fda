-- A run of steps appended to others: one induction over the others.
-- Assumes nothing.
use mathlib.Core.List.{List, [], ◌∷◌, ◌++◌}
use Prim.Native.Nat.{ℕ}
use lib.ListN.{get_or}
use Rattle.plan.specs.Plan.{reads, writes, Step, cell, operand, tells}
use Rattle.operation.specs.Operation.{value_of, cell_number}
use Rattle.operation.specs.Store.{Store, Update}
use Rattle.execution.specs.Run.{Outcome, finished, declined, Next, continues, stops, act, onward, run_from}

-- what holds of two lists of steps, wherever a run comes to them, holds of them appended to any steps, which may be declined themselves
module _ (ps : List ℕ) (a b : List Step) (P : Outcome → Type 0) (R : Outcome → Outcome → Outcome → Type 0) where
  onward_append : (n : Next) (f g h : ℕ → Outcome) (stop : Outcome) → ((y : ℕ) → P (h y) → R (f y) (g y) (h y))
      → (P stop → R stop stop stop) → P (onward n h stop) → R (onward n f stop) (onward n g stop) (onward n h stop)
  onward_append (continues y) f g h stop i d p = i y p
  onward_append stops f g h stop i d p = d p

  module _ (here : (s : Store) (x : ℕ) (ts : List ℕ) (u : Update) → P (finished x ts u)
      → R (run_from ps a s x ts u) (run_from ps b s x ts u) (finished x ts u))
      (ended : (x : ℕ) (ts : List ℕ) → P (declined x ts) → R (declined x ts) (declined x ts) (declined x ts)) where
    pub run_append : (ss : List Step) (s : Store) (x : ℕ) (ts : List ℕ) (u : Update) → P (run_from ps ss s x ts u)
        → R (run_from ps (ss ++ a) s x ts u) (run_from ps (ss ++ b) s x ts u) (run_from ps ss s x ts u)
    unfolding run_from
    run_append [] s x ts u p = here s x ts u p
    run_append (cell reads t c r ∷ ss) s x ts u p = run_append ss s (get_or s (cell_number t (value_of ps r) c) 0) ts u p
    run_append (cell writes t c r ∷ ss) s x ts u p = run_append ss _ x ts _ p
    run_append (operand g v ∷ ss) s x ts u p = onward_append (act g x (value_of ps v)) _ _ _ _ (λ y. run_append ss s y ts u) (ended _ ts) p
    run_append (tells ∷ ss) s x ts u p = run_append ss s x (ts ++ (x ∷ [])) u p
