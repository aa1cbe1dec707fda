-- A cell's number: its bound, table, column and row of it, and the number from these.
-- Assumes nothing.
use mathlib.Core.Path.{◌≡◌}
use Prim.Native.Nat.{ℕ, ◌/◌, ◌%◌, ◌<◌}
use native.Mathlib.Omega.{arith}
use Rattle.operation.specs.Operation.{cell_number}
use Rattle.operation.specs.Store.{store_size}

pub cell_number_low : (t r k : ℕ) → t < 8 → r < 32 → k < 4 → cell_number t r k < store_size
cell_number_low t r k ht hr hk = omega arith

pub cell_parts : (t r k : ℕ) → r < 32 → k < 4
    → (cell_number t r k / 128 ≡ t) × (cell_number t r k % 4 ≡ k) × (cell_number t r k / 4 % 32 ≡ r)
cell_parts t r k hr hk = (omega arith, omega arith, omega arith)

pub parts_cell : (c t r k : ℕ) → c / 128 ≡ t → c % 4 ≡ k → c / 4 % 32 ≡ r → c ≡ cell_number t r k
parts_cell c t r k a b e = omega arith
