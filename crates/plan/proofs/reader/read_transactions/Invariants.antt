-- Questions 3 and 4 over the words: at each place of the walk, what is still to come gives the whole verdict.
-- Assumes nothing.
use mathlib.Core.Path.{◌≡◌}
use Prim.Native.Nat.{◌-◌, ◌≤◌}
use lib.ListN.{drop}
use Rattle.plan.specs.Admission.{transactions_verdict, most_tells}
use Rattle.plan.proofs.Rest.{rest_at, rest_in_at}
use Rattle.plan.proofs.reader.read_transactions.Given as goal

abbrev pub invariant-loop-s : goal.invariant-loop-s
invariant-loop-s l =
    (l.tells ≤ most_tells)
    × (rest_in_at l.steps l.s l.parameters l.transactions l.t l.tells l.plan l.at l.missing ≡ transactions_verdict l.transactions
    (drop 1 l.plan))

abbrev pub decreases-loop-s : goal.decreases-loop-s
decreases-loop-s l = l.steps - l.s

abbrev pub invariant-transactions : goal.invariant-transactions
invariant-transactions l =
    rest_at l.transactions l.t l.plan l.at l.missing ≡ transactions_verdict l.transactions (drop 1 l.plan)

abbrev pub decreases-transactions : goal.decreases-transactions
decreases-transactions l = l.transactions - l.t
