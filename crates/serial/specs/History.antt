-- A history: calls one after another, each at its desk; how it starts; and the premise on accepted frames.
use Rattle.std.specs.Prelude.{ℕ, ◌<◌, ◌≡◌, false}
use mathlib.Core.List.{List, [], ◌∷◌, ◌++◌, Memᴰ}
use Rattle.lists.specs.Lists.{assign}
use Rattle.serial.specs.Store.{Store}
use Rattle.serial.specs.Frame.{Frame}
use Rattle.serial.specs.Desk.{Desk, Call, request, visit, desk_called, Answer, is_refused, sent}
use Rattle.serial.specs.System.{System}
use Rattle.serial.specs.Step.{serve}

module _ (S : System) where
  open S use {n, Op, Extra, Reply}

  -- ---- "State, book and row pass from call to call at their desk."

  abbrev pub answer_at : (ℕ → Desk Op) → Call Op Extra → Answer Reply
  answer_at w c = (serve S (w (desk_called c)) c).1

  abbrev pub step_at : (ℕ → Desk Op) → Call Op Extra → ℕ → Desk Op
  step_at w c = assign (desk_called c) (serve S (w (desk_called c)) c).0 w

  abbrev pub answers : (ℕ → Desk Op) → List (Call Op Extra) → List (Answer Reply)
  answers w [] = []
  answers w (c ∷ cs) = answer_at w c ∷ answers (step_at w c) cs

  abbrev pub desks_after : (ℕ → Desk Op) → List (Call Op Extra) → ℕ → Desk Op
  desks_after w [] = w
  desks_after w (c ∷ cs) = desks_after (step_at w c) cs

  -- "At its start each desk is as the new desk call gives it, the books are equal"; "A new desk p awaits p with none waiting"
  abbrev pub new_desks : Store → ℕ → Desk Op
  new_desks s p = record { store = s; queue = []; awaited = p }

  -- ---- the premise: "each at a desk below n", and an accepted frame is one of fs, the starting frame and those that earlier
  -- accepted visits wrote. A refused call may bring any frame.

  abbrev pub Framed : List Frame → Call Op Extra → Type 0
  Framed fs (request p r x) = Unit {0}
  Framed fs (visit p f x) = Memᴰ f fs

  abbrev pub Proper : (ℕ → Desk Op) → List Frame → List (Call Op Extra) → Type 0
  Proper w fs [] = Unit {0}
  Proper w fs (c ∷ cs) =
      (desk_called c < n) × (is_refused (answer_at w c) ≡ false → Framed fs c) × Proper (step_at w c) (fs ++ sent (answer_at w c)) cs
