-- The serial order: what is noted of a finished operation, its place in the order, and putting in order.
use Rattle.std.specs.Prelude.{ℕ, suc, ◌+◌, ◌*◌, ◌≤◌, ◌<◌, ◌≡◌, ◌⊎◌, cond, List, [], ◌∷◌, ◌++◌, ltb}
use Rattle.serial.specs.Desk.{Request}

-- the k-th global, from 1; or a local or free run at a desk: "the desk called and that desk's g are noted with it"
pub data Slot : Type 0 where
  global_run : ℕ → Slot
  immediate_run : ℕ → ℕ → Slot

-- a finished operation, and `by`, the number of the call that finished it
pub record Finished (Op : Type 0) : Type 0 where
  pub slot : Slot
  pub by : ℕ
  pub request : Request Op

-- "Globals by visit, then order of running. A local or free run comes after the g-th global and before the next, ..; with equal g by
-- desk, then order of running." With n desks each global takes n + 1 places: its own, and behind it one for each desk.
abbrev pub span : ℕ → ℕ
span n = suc n

abbrev pub place_at : ℕ → ℕ → ℕ → ℕ
place_at n k i = k * span n + i

abbrev pub place_of : ℕ → Slot → ℕ
place_of n (global_run k) = place_at n k 0
place_of n (immediate_run g p) = place_at n g (suc p)

abbrev pub place : {Op : Type 0} → ℕ → Finished Op → ℕ
place n e = place_of n e.slot

-- the same rule with no reckoning of places: "Globals by visit, then order of running", which is their number; a run at once "after
-- the g-th global and before the next, ..; with equal g by desk"
abbrev pub Before : Slot → Slot → Type 0
Before (global_run j) (global_run k) = j < k
Before (global_run k) (immediate_run g p) = k ≤ g
Before (immediate_run g p) (global_run k) = g < k
Before (immediate_run g p) (immediate_run h q) = (g < h) ⊎ ((g ≡ h) × (p < q))

-- "then order of running": by the number of the call
abbrev pub Precedes : {Op : Type 0} → Finished Op → Finished Op → Type 0
Precedes e f = Before e.slot f.slot ⊎ ((e.slot ≡ f.slot) × (e.by < f.by))

-- ---- putting in order by a key: each goes behind all earlier ones whose key is not greater, so equal keys stay in order of running

module _ {A : Type 0} (key : A → ℕ) where
  -- the front of a list up to key k, and what lies behind it
  abbrev pub upto : ℕ → List A → List A
  upto k [] = []
  upto k (e ∷ es) = cond (ltb k (key e)) [] (e ∷ upto k es)

  abbrev pub beyond : ℕ → List A → List A
  beyond k [] = []
  beyond k (e ∷ es) = cond (ltb k (key e)) (e ∷ es) (beyond k es)

  abbrev pub insert : A → List A → List A
  insert e es = upto (key e) es ++ (e ∷ beyond (key e) es)

  abbrev pub sort_onto : List A → List A → List A
  sort_onto es [] = es
  sort_onto es (e ∷ fs) = sort_onto (insert e es) fs
