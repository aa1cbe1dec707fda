-- The updates that an accepted visit sends on are well formed: those of the others as they came, and one for each waiting request.
-- Assumes nothing.
use Prim.Native.Nat.{ℕ, ◌≤◌, ◌<◌}
use mathlib.Core.Path.{◌≡◌, refl, ap}
use mathlib.Core.Bool.{true}
use mathlib.Core.List.{List, [], ◌∷◌, ◌++◌, map}
use native.Mathlib.Omega.{arith}
use lib.ListN.{length}
use Rattle.verdict.specs.Verdict.{accepted, is_accepted}
use Rattle.std.specs.List.{list_all, AllByRecursion}
use Rattle.std.proofs.lemmas.Bool.{and_from}
use Rattle.plan.specs.Plan.{Plan}
use Rattle.plan.specs.Decode.{plan_of}
use Rattle.plan.specs.Admission.{plan_verdict}
use Rattle.operation.specs.Store.{Store}
use Rattle.frame.specs.Frame.{SentUpdate, sent}
use Rattle.token.specs.WellFormed.{WellFormed}
use Rattle.token.specs.Forward.{foreign}
use Rattle.token.proofs.Foreign.{forwarded_fits}
use Rattle.queue.specs.declared.record.Request.{Request}
use Rattle.visits.specs.Waiting.{updates_of}
use Rattle.visits.specs.Running.{is_operation}
use Rattle.visits.proofs.OwnUpdates.{updates_count, all_fit}
use Rattle.history.proofs.Operations.{Runs}

-- requests that run pass questions 7 and 8
all_operations : (p : Plan) (q : List Request) → AllByRecursion (Runs p) q → list_all (is_operation p) q ≡ true
all_operations p [] k = refl
all_operations p (r ∷ q) k = and_from (is_operation p r) _ (ap is_accepted k.0.passes) (all_operations p q k.1)

pub outgoing_formed : (ws : List ℕ) → plan_verdict ws ≡ accepted → (p : ℕ) → p < (plan_of ws).desks
    → (us : List SentUpdate) (q : List Request) (s : Store) → WellFormed (plan_of ws).desks us → AllByRecursion (Runs (plan_of ws)) q
    → length q ≤ 32
    → WellFormed (plan_of ws).desks (foreign p us ++ map (sent p) (updates_of (plan_of ws) q s))
outgoing_formed ws accept p h us q s f k few =
    forwarded_fits (plan_of ws).desks p us (updates_of (plan_of ws) q s) f (omega (arith, updates_count (plan_of ws) q s, few))
    (all_fit ws accept p h q s (all_operations (plan_of ws) q k))
