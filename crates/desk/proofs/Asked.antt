-- The operation that a request asks for: its desk, its class and its run are those of the request's operation.
-- Assumes nothing.
use Rattle.std.proofs.Common.{ℕ, zero, suc, ◌<◌, ◌≡◌, true, ap₂, refl, List, [], ◌∷◌, length, get_or, ltb, Some, None}
use Rattle.std.specs.List.{slice_get}
use Rattle.std.proofs.lemmas.Option.{slice_get-get_or}
use borrow.Author.Tests.{ltb-true}
use Rattle.verdict.specs.Verdict.{accepted}
use Rattle.verdict.proofs.Verdicts.{ask_accepted, ask_then_accepted}
use Rattle.plan.specs.Plan.{Transaction, Plan, no_transaction}
use Rattle.plan.specs.Decode.{plan_of}
use Rattle.plan.specs.Transaction.{the_transaction}
use Rattle.operation.specs.Operation.{transaction_of, desk_by, desk_of}
use Rattle.operation.specs.declared.operation.Operation.{Operation}
use Rattle.operation.specs.Store.{Store}
use Rattle.operation.specs.Admission.{operation_verdict, transaction_exists, parameters_pass}
use Rattle.execution.specs.Run.{run_transaction, run}
use Rattle.conflict.specs.Class.{class_by, class_of}
use Rattle.queue.specs.Queue.{params_of}
use Rattle.queue.specs.declared.record.Request.{Request}
use Rattle.desk.specs.Queueing.{operation_of}
use Rattle.desk.specs.Admission.{Admitted}
use Rattle.desk.specs.Asked.{IsAsked}

module _ (p : Plan) (r : Request) (o : Operation) (a : IsAsked p r o) where
  pub asked_desk : desk_by p.desks (the_transaction o.transaction).part o.params ≡ desk_of p (operation_of r)
  asked_desk = ap₂ (λ (t : Transaction) (ps : List ℕ). desk_by p.desks t.part ps) a.transaction a.params

  pub asked_class : class_by p (the_transaction o.transaction) o.params ≡ class_of p (operation_of r)
  asked_class = ap₂ (class_by p) a.transaction a.params

  pub asked_run : (s : Store) → run_transaction (the_transaction o.transaction) o.params s ≡ run p (operation_of r) s
  asked_run s = ap₂ (λ (t : Transaction) (ps : List ℕ). run_transaction t ps s) a.transaction a.params

-- ---- questions 7 and 8 are answered with yes

-- a place past the end has no entry
pub none_past : {A : Type 0} (xs : List A) (i : ℕ) (d : A) → slice_get xs i ≡ None → get_or xs i d ≡ d
none_past [] i d e = refl
none_past (x ∷ xs) zero d e = cc
none_past (x ∷ xs) (suc i) d e = none_past xs i d e

module _ (p : Plan) (r : Request) (e : operation_verdict p (operation_of r) ≡ accepted) where
  transaction_low : r.transaction < length p.transactions
  unfolding operation_verdict transaction_exists
  transaction_low = ltb-true _ _ (ask_then_accepted 7 (ltb r.transaction (length p.transactions)) _ e).0

  pub admitted_found : slice_get p.transactions r.transaction ≡ Some (transaction_of p (operation_of r))
  admitted_found = slice_get-get_or p.transactions r.transaction no_transaction transaction_low

  pub admitted_passes : parameters_pass (transaction_of p (operation_of r)) (params_of r) ≡ true
  unfolding operation_verdict
  admitted_passes =
      ask_accepted 8 (parameters_pass (transaction_of p (operation_of r)) (params_of r))
      (ask_then_accepted 7 (transaction_exists p r.transaction) _ e).1

module _ (ws : List ℕ) (r : Request) (a : Admitted ws r) where
  pub admitted_exists : transaction_exists (plan_of ws) r.transaction ≡ true
  unfolding operation_verdict
  admitted_exists = (ask_then_accepted 7 (transaction_exists (plan_of ws) r.transaction) _ a.passed).0
