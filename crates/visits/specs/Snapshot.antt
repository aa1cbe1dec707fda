-- The snapshot that a visit takes (02: bulletin): of the cells that two or more desks may touch.
use Rattle.std.specs.Prelude.{ℕ, cond, List, get_or}
use Rattle.lists.specs.Lists.{tabulate}
use Rattle.plan.specs.Plan.{Plan}
use Rattle.operation.specs.Store.{Store, store_size}
use Rattle.conflict.specs.Touch.{desk_mask}
use Rattle.conflict.specs.Shared.{is_shared}

-- cell by cell: what the store holds where the mask, by the cell's number, is that of a shared cell, and what was there elsewhere
unfoldable pub copied_by : (ℕ → ℕ) → Store → List ℕ → List ℕ
copied_by mask cells snapshot = tabulate store_size (λ c. cond (is_shared (mask c)) (get_or cells c 0) (get_or snapshot c 0))

-- "An accepted visit sets each bulletin cell that two or more desks may touch to what the desk's book held before the visit; other
-- bulletin cells never change."
abbrev pub snapshot_taken : Plan → Store → List ℕ → List ℕ
snapshot_taken p cells snapshot = copied_by (desk_mask p) cells snapshot
