-- Frames: what the token carries from visit to visit. How a frame is written in words is no matter here.
use Rattle.std.specs.Prelude.{ℕ, cond, List, [], ◌∷◌, map, eqb}
use Rattle.serial.specs.Store.{Update}

-- the visit's number, and the updates, each with the desk that made it
pub record Frame : Type 0 where
  pub number : ℕ
  pub updates : List (ℕ × Update)

-- "The starting frame is visit 0 with no update."
abbrev pub start_frame : Frame
start_frame = record { number = 0; updates = [] }

-- "A visit drops this desk's own updates": those of the others, in order
abbrev pub foreign : ℕ → List (ℕ × Update) → List (ℕ × Update)
foreign p [] = []
foreign p (u ∷ us) = cond (eqb u.0 p) (foreign p us) (u ∷ foreign p us)

-- each update marked as desk p's
abbrev pub tag : ℕ → List Update → List (ℕ × Update)
tag p us = map (λ (u : Update). (p, u)) us

abbrev pub untag : List (ℕ × Update) → List Update
untag us = map (λ (u : ℕ × Update). u.1) us
