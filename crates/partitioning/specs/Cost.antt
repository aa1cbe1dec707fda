-- "The cost is the sum of weights of transactions that have some global operation."
--     HasGlobal                     over all operations
--     Costs                         the cost by it
--     cost_of                       the cost, computed by the masks
--     HasGlobalMeans, CostMeans     that the computed test and cost are those over all operations
use Rattle.std.specs.Prelude.{ℕ, suc, ◌+◌, ◌<◌, ◌≡◌, Bool, true, ◌&&◌, cond, List, [], ◌∷◌, ◌↔◌, length}
use Rattle.verdict.specs.Verdict.{accepted}
use Rattle.std.specs.List.{list_any}
use Rattle.lists.specs.Lists.{any_below}
use Rattle.plan.specs.Plan.{Step, Transaction, Plan, transaction_at}
use Rattle.plan.specs.Decode.{plan_of}
use Rattle.plan.specs.Admission.{plan_verdict}
use Rattle.operation.specs.Operation.{Operation}
use Rattle.operation.specs.Admission.{IsOperation}
use Rattle.operation.specs.Store.{store_size}
use Rattle.conflict.specs.Touch.{desk_mask}
use Rattle.conflict.specs.Shared.{is_shared}
use Rattle.conflict.specs.Written.{step_writes}
use Rattle.conflict.specs.Class.{Global}

-- ---- over all operations

-- transaction k has "some global operation"
abbrev pub HasGlobal : Plan → ℕ → Type 0
HasGlobal p k = (o : Operation) × IsOperation p o × (o.transaction ≡ k) × Global p o

-- the weights of the transactions from k on that the test picks
unfoldable pub picked_weight : (ℕ → Bool) → ℕ → List Transaction → ℕ
picked_weight picks k [] = 0
picked_weight picks k (t ∷ ts) = cond (picks k) t.weight 0 + picked_weight picks (suc k) ts

-- the plan costs c: the weights of just those transactions that have a global operation
pub record Costs (p : Plan) (c : ℕ) : Type 0 where
  pub picks : ℕ → Bool
  pub globals : (k : ℕ) → k < length p.transactions → (picks k ≡ true) ↔ HasGlobal p k
  pub sum : c ≡ picked_weight picks 0 p.transactions

-- ---- computed

-- two desks or more may touch the cell
abbrev pub shared : Plan → ℕ → Bool
shared p c = is_shared (desk_mask p c)

-- the step may write such a cell
unfoldable pub writes_shared : Plan → Step → Bool
writes_shared p s = any_below store_size (λ c. step_writes s c && shared p c)

abbrev pub has_global : Plan → Transaction → Bool
has_global p t = list_any (writes_shared p) t.steps

unfoldable pub global_weight : Plan → List Transaction → ℕ
global_weight p [] = 0
global_weight p (t ∷ ts) = cond (has_global p t) t.weight 0 + global_weight p ts

abbrev pub cost_of : Plan → ℕ
cost_of p = global_weight p p.transactions

-- ---- the same

abbrev pub HasGlobalMeans : Type 0
HasGlobalMeans = (ws : List ℕ) → plan_verdict ws ≡ accepted → (k : ℕ) → k < length (plan_of ws).transactions
    → (has_global (plan_of ws) (transaction_at (plan_of ws) k) ≡ true) ↔ HasGlobal (plan_of ws) k

abbrev pub CostMeans : Type 0
CostMeans = (ws : List ℕ) → plan_verdict ws ≡ accepted → (c : ℕ) → Costs (plan_of ws) c ↔ (c ≡ cost_of (plan_of ws))
