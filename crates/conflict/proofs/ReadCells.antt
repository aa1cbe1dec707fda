-- An operation names no more cells than a transaction has steps.
-- Assumes nothing.
use mathlib.Core.Path.{◌≡◌, ap}
use mathlib.Core.List.{List, ◌∷◌, ◌++◌, map}
use Prim.Native.Nat.{ℕ, ◌≤◌, ◌<◌}
use native.Mathlib.Omega.{arith}
use lib.ListN.{length, length-map, length-append}
use Rattle.plan.specs.Plan.{Access}
use Rattle.plan.specs.Decode.{step_of}
use Rattle.plan.specs.Form.{IsTransaction}
use Rattle.plan.proofs.Words.{transaction_steps}
use Rattle.operation.specs.Operation.{cells_named}
use Rattle.operation.proofs.NamedCells.{named_few}

-- a transaction has at most 12 steps
cells_few : (a : Access) (ps : List ℕ) (w : ℕ) (ws : List ℕ) → IsTransaction w ws → length (cells_named a ps (map step_of ws)) ≤ 12
cells_few a ps w ws f =
    omega (arith, named_few a ps (map step_of ws), length-map ws step_of, f.count, transaction_steps w f.form)

-- there is room for a cell that is still to come
pub room : (a : Access) (ps : List ℕ) (w : ℕ) (ws : List ℕ) → IsTransaction w ws → (done left rest : List ℕ) (x : ℕ)
    → done ++ left ≡ cells_named a ps (map step_of ws) → left ≡ x ∷ rest → length done < 12
room a ps w ws f done left rest x h e =
    omega (arith, cells_few a ps w ws f, ap length h, length-append done left, ap length e)
