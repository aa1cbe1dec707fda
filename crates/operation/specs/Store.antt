-- Stores (01: books), and the updates that are applied to them.
use Rattle.std.specs.Prelude.{ℕ, List, [], ◌∷◌, set}

-- "A book is 1,024 words, one per cell."
abbrev pub Store : Type 0
Store = List ℕ

abbrev pub store_size : ℕ
store_size = 1024

-- "the list of written cells and values in step order"; "a cell written twice is in it twice"
abbrev pub Update : Type 0
Update = List (ℕ × ℕ)

unfoldable pub apply_update : Update → Store → Store
apply_update [] s = s
apply_update (w ∷ u) s = apply_update u (set s w.0 w.1)
