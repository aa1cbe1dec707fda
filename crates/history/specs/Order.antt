-- The serial order of 01: what is noted of a finished request, and putting in order.
use Rattle.std.specs.Prelude.{ℕ, Bool, cond, List, [], ◌∷◌, ltb, leb, eqb}
use Rattle.queue.specs.declared.record.Request.{Request}

-- the k-th global, from 1; or a local or free run, with that desk's g and "the desk called"
pub data Slot : Type 0 where
  global_run : (k : ℕ) → Slot
  immediate_run : (g desk : ℕ) → Slot

-- a finished request, and `by`, the number of the call that finished it
pub record Finished : Type 0 where
  pub slot : Slot
  pub by : ℕ
  pub request : Request

-- whether one goes before another. "Globals by visit, then order of running": by their number
abbrev pub before : Slot → Slot → Bool
before (global_run j) (global_run k) = ltb j k
-- "A local or free run comes after the g-th global and before the next"
before (global_run k) (immediate_run g p) = leb k g
before (immediate_run g p) (global_run k) = ltb g k
-- "with equal g by desk"
before (immediate_run g p) (immediate_run h q) = cond (eqb g h) (ltb p q) (ltb g h)

-- "then order of running": one more goes behind all, but for those that it goes before
abbrev pub insert : Finished → List Finished → List Finished
insert e [] = e ∷ []
insert e (f ∷ fs) = cond (before e.slot f.slot) (e ∷ f ∷ fs) (f ∷ insert e fs)

-- those in order, and those still to be put in order, in order of running
abbrev pub sort_onto : List Finished → List Finished → List Finished
sort_onto es [] = es
sort_onto es (e ∷ fs) = sort_onto (insert e es) fs
