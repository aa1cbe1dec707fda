-- A history from new desks, at its end: the premise on it, and all that the claim and the later theorems say something of.
use Rattle.std.specs.Prelude.{ℕ, List, [], ◌∷◌, map}
use Rattle.serial.specs.Store.{Store}
use Rattle.serial.specs.Frame.{Frame, start_frame}
use Rattle.serial.specs.Desk.{Desk, Call, Answer, is_refused}
use Rattle.serial.specs.System.{System}
use Rattle.serial.specs.History.{answers, desks_after, new_desks, Proper}
use Rattle.serial.specs.Order.{Finished}
use Rattle.serial.specs.SerialRun.{Serial, serial, order}
use Rattle.serial.specs.Visits.{Visit, visits, latest_frame, frames_after}

-- b the starting store, cs the calls
module _ (S : System) (b : Store) (cs : List (Call S.Op S.Extra)) where
  open S use {Op, Reply}

  -- the premise
  abbrev pub ProperFrom : Type 0
  ProperFrom = Proper S (new_desks S b) (start_frame ∷ []) cs

  abbrev pub answers_of : List (Answer Reply)
  answers_of = answers S (new_desks S b) cs

  abbrev pub desks_of : ℕ → Desk Op
  desks_of = desks_after S (new_desks S b) cs

  -- the serial run, "of the answers, only from whether each was a refusal"
  abbrev pub serial_of : Serial Op
  serial_of = serial S cs (map is_refused answers_of)

  abbrev pub order_of : List (Finished Op)
  order_of = order S serial_of

  -- the accepted visits, all frames, and the latest of them
  abbrev pub visits_of : List Visit
  visits_of = visits S (new_desks S b) cs

  abbrev pub frames_of : List Frame
  frames_of = frames_after (start_frame ∷ []) answers_of

  abbrev pub latest_of : Frame
  latest_of = latest_frame start_frame answers_of
