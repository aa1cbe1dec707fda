-- Stores (01: books), updates, and applying an update to a store.
use Rattle.std.specs.Prelude.{ℕ, ◌≡◌, List, [], ◌∷◌, length, get_or, set}

-- a replica's cells, one number each (01: "A book is 1,024 words, one per cell"; here of any length)
abbrev pub Store : Type 0
Store = List ℕ

-- "The update is the list of written cells and values in step order"
abbrev pub Update : Type 0
Update = List (ℕ × ℕ)

abbrev pub apply_update : Update → Store → Store
apply_update [] s = s
apply_update (w ∷ u) s = apply_update u (set s w.0 w.1)

-- updates applied "in order"
abbrev pub apply_all : List Update → Store → Store
apply_all [] s = s
apply_all (u ∷ us) s = apply_all us (apply_update u s)

-- two stores are equally long and agree on the cells of P
abbrev pub Same : (ℕ → Type 0) → Store → Store → Type 0
Same P a b = (length a ≡ length b) × ((c : ℕ) → P c → get_or a c 0 ≡ get_or b c 0)

-- an update writes cells of P only
abbrev pub Within : (ℕ → Type 0) → Update → Type 0
Within P [] = Unit {0}
Within P (w ∷ u) = P w.0 × Within P u
