-- What must hold of a visit's updates for a frame to carry them. The addressed desk is the visit modulo n by the writing itself.
use Rattle.std.specs.Prelude.{ℕ, ◌≤◌, ◌≡◌, Bool, true, ◌&&◌, List, length, ltb, leb}
use Rattle.std.specs.List.{list_all}
use Rattle.frame.specs.Frame.{SentUpdate}
use Rattle.frame.specs.Admission.{desk_count, updates_per_desk}
use Rattle.operation.specs.Store.{store_size}

-- "A book is 1,024 words, one per cell."
abbrev pub cell_fits : ℕ × ℕ → Bool
cell_fits w = ltb w.0 store_size

-- "desks below n", cells 0–12
abbrev pub update_fits : ℕ → SentUpdate → Bool
update_fits n u = ltb u.desk n && (leb (length u.writes) 12 && list_all cell_fits u.writes)

-- "at most 32 updates per desk"
pub record WellFormed (n : ℕ) (us : List SentUpdate) : Type 0 where
  pub each : list_all (update_fits n) us ≡ true
  pub per_desk : (d : ℕ) → desk_count d us ≤ updates_per_desk
