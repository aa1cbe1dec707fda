-- The updates that waiting requests make: one for each, and what a frame must have of them.
-- Assumes nothing.
use mathlib.Core.Path.{◌≡◌, refl, sym, subst}
use mathlib.Core.Bool.{true}
use mathlib.Core.List.{List, [], ◌∷◌, map}
use Prim.Native.Nat.{ℕ, ◌<◌}
use native.Mathlib.Omega.{arith}
use lib.ListN.{length}
use lib.Dec.{ltb}
use borrow.Author.Tests.{lt-ltb, le-leb, ltb-true}
use Rattle.verdict.specs.Verdict.{accepted}
use Rattle.verdict.proofs.Verdicts.{ask_then_accepted, is_accepted_accepted}
use Rattle.std.specs.List.{list_all}
use Rattle.std.proofs.lemmas.Bool.{and_from}
use Rattle.lists.proofs.Laws.{and_fst, and_snd, member_all}
use Rattle.word.specs.Field.{head_transactions}
use Rattle.plan.specs.Plan.{Plan, Transaction, writes}
use Rattle.plan.specs.Decode.{head_of, plan_of}
use Rattle.plan.specs.Admission.{plan_verdict}
use Rattle.plan.specs.Place.{transaction_place, transaction_from}
use Rattle.plan.proofs.Accepted.{transaction_count}
use Rattle.plan.proofs.Places.{stands_at_lem, transaction_is}
use Rattle.operation.specs.Operation.{transaction_of}
use Rattle.operation.specs.Admission.{operation_verdict, transaction_exists, unused_zero, parameters_pass}
use Rattle.operation.specs.Store.{Store, apply_update}
use Rattle.execution.specs.Run.{run, run_transaction}
use Rattle.operation.proofs.Bounds.{cells_low, transaction_fits}
use Rattle.execution.proofs.Runs.{update_few, writes_within}
use Rattle.frame.specs.Frame.{sent}
use Rattle.token.specs.WellFormed.{cell_fits, update_fits}
use Rattle.queue.specs.Queue.{params_of}
use Rattle.queue.specs.declared.record.Request.{Request}
use Rattle.desk.specs.Queueing.{operation_of}
use Rattle.visits.specs.Waiting.{updates_of, replies_of}
use Rattle.visits.specs.Running.{is_operation}
use Rattle.desk.proofs.Asked.{admitted_passes}

pub updates_count : (p : Plan) (rs : List Request) (s : Store) → length (updates_of p rs s) ≡ length rs
unfolding updates_of
updates_count p [] s = refl
updates_count p (r ∷ rs) s = omega (arith, updates_count p rs (apply_update (run p (operation_of r) s).update s))

pub replies_count : (p : Plan) (rs : List Request) (s : Store) → length (replies_of p rs s) ≡ length rs
unfolding replies_of
replies_count p [] s = refl
replies_count p (r ∷ rs) s = omega (arith, replies_count p rs (apply_update (run p (operation_of r) s).update s))

-- an operation's transaction is one of the plan's
exists_here : (p : Plan) (r : Request) → operation_verdict p (operation_of r) ≡ accepted → r.transaction < length p.transactions
unfolding operation_verdict transaction_exists
exists_here p r e = ltb-true _ _ (ask_then_accepted 7 (ltb r.transaction (length p.transactions)) _ e).0

module _ (ws : List ℕ) (e : plan_verdict ws ≡ accepted) (desk : ℕ) (low : desk < (plan_of ws).desks) where
  one_fits : (r : Request) (s : Store) → is_operation (plan_of ws) r ≡ true
      → update_fits (plan_of ws).desks (sent desk (run (plan_of ws) (operation_of r) s).update) ≡ true
  unfolding parameters_pass
  one_fits r s h =
      let p = plan_of ws in
      let a : operation_verdict p (operation_of r) ≡ accepted = is_accepted_accepted (operation_verdict p (operation_of r)) h in
      let k : r.transaction < head_transactions (head_of ws) = omega (arith, exists_here p r a, transaction_count ws e) in
      let at = transaction_place ws r.transaction in
      let ps = params_of r in
      let t = transaction_from ws at in
      let is : transaction_of p (operation_of r) ≡ t = transaction_is ws e r.transaction k in
      let passes : parameters_pass t ps ≡ true = subst (λ (u : Transaction). parameters_pass u ps ≡ true) is (admitted_passes p r a) in
      let rows = and_snd (unused_zero t.params ps) _ passes in
      let cells = member_all cell_fits (run_transaction t ps s).update (λ w m.
      lt-ltb w.0 1024 (cells_low writes ps t.steps (transaction_fits ws at) rows w.0 (writes_within t ps s w m))) in
      let few = le-leb (length (run_transaction t ps s).update) 12 (update_few ws at ps s (stands_at_lem ws e r.transaction k)) in
      subst (λ (u : Transaction). update_fits p.desks (sent desk (run_transaction u ps s).update) ≡ true) (sym is)
      (and_from _ _ (lt-ltb desk p.desks low) (and_from _ _ few cells))

  pub all_fit : (rs : List Request) (s : Store) → list_all (is_operation (plan_of ws)) rs ≡ true
      → list_all (update_fits (plan_of ws).desks) (map (sent desk) (updates_of (plan_of ws) rs s)) ≡ true
  unfolding updates_of
  all_fit [] s h = refl
  all_fit (r ∷ rs) s h =
      and_from _ _ (one_fits r s (and_fst (is_operation (plan_of ws) r) _ h))
      (all_fit rs (apply_update (run (plan_of ws) (operation_of r) s).update s) (and_snd (is_operation (plan_of ws) r) _ h))
