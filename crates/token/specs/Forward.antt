-- What a desk does with the updates that it receives: it drops its own, and applies the others and sends them on.
use Rattle.std.specs.Prelude.{ℕ, cond, List, [], ◌∷◌, eqb}
use Rattle.operation.specs.Store.{Store, apply_update}
use Rattle.frame.specs.Frame.{SentUpdate, updates_words}
use Rattle.frame.specs.Admission.{updates_from}

-- "A visit drops this desk's own updates": those of the others, in order
unfoldable pub foreign : ℕ → List SentUpdate → List SentUpdate
foreign desk [] = []
foreign desk (u ∷ us) = cond (eqb u.desk desk) (foreign desk us) (u ∷ foreign desk us)

-- "applies the others in order"
unfoldable pub apply_all : List SentUpdate → Store → Store
apply_all [] s = s
apply_all (u ∷ us) s = apply_all us (apply_update u.writes s)

-- the words of the others' updates among these words
abbrev pub foreign_words : ℕ → List ℕ → List ℕ
foreign_words desk body = updates_words (foreign desk (updates_from 0 body))
