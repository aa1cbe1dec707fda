-- The accepted visits of a history, and its latest frame: what the later theorems on the token speak of.
use Rattle.std.specs.Prelude.{ℕ, ◌-◌, cond, List, [], ◌∷◌, ◌++◌, length, drop}
use Rattle.serial.specs.Store.{Update}
use Rattle.serial.specs.Frame.{Frame}
use Rattle.serial.specs.Desk.{Desk, Call, request, visit, desk_called, Answer, refused, replied, waits, redirected, forwarded}
use Rattle.serial.specs.Desk.{is_refused, sent}
use Rattle.serial.specs.System.{System}
use Rattle.serial.specs.Step.{made}
use Rattle.serial.specs.History.{answer_at, step_at}

-- an accepted visit: its desk, its number, and the updates that it appended
pub record Visit : Type 0 where
  pub desk : ℕ
  pub number : ℕ
  pub updates : List (ℕ × Update)

-- the updates that some visits appended, in order
abbrev pub appended : List Visit → List (ℕ × Update)
appended [] = []
appended (v ∷ vs) = v.updates ++ appended vs

-- the last k of a list
abbrev pub last_of : {A : Type 0} → ℕ → List A → List A
last_of k l = drop (length l - k) l

-- the latest frame, f before any accepted visit
abbrev pub frame_after : {Reply : Type 0} → Frame → Answer Reply → Frame
frame_after f refused = f
frame_after f (replied r) = f
frame_after f waits = f
frame_after f (redirected d) = f
frame_after f (forwarded f' rs) = f'

abbrev pub latest_frame : {Reply : Type 0} → Frame → List (Answer Reply) → Frame
latest_frame f [] = f
latest_frame f (a ∷ ans) = latest_frame (frame_after f a) ans

-- all frames, once these answers are given
abbrev pub frames_after : {Reply : Type 0} → List Frame → List (Answer Reply) → List Frame
frames_after fs [] = fs
frames_after fs (a ∷ ans) = frames_after (fs ++ sent a) ans

module _ (S : System) where
  open S use {Op, Extra}

  abbrev pub visit_of : Desk Op → Call Op Extra → List Visit
  visit_of d (request p r x) = []
  visit_of d (visit p f x) = record { desk = p; number = f.number; updates = made S p d f } ∷ []

  -- the visits that a call adds
  abbrev pub visits_at : (ℕ → Desk Op) → Call Op Extra → List Visit
  visits_at w c = cond (is_refused (answer_at S w c)) [] (visit_of (w (desk_called c)) c)

  -- "accepted visits", in the order of the list
  abbrev pub visits : (ℕ → Desk Op) → List (Call Op Extra) → List Visit
  visits w [] = []
  visits w (c ∷ cs) = visits_at w c ++ visits (step_at S w c) cs
