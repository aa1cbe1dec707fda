-- A machine whose calls are the abstract step seen through a view, and whose frames are words: its histories, and the premise in its
-- own words.
use Rattle.std.specs.Prelude.{ℕ, ◌<◌, ◌≡◌, false}
use mathlib.Core.List.{List, [], ◌∷◌, ◌++◌, map, Memᴰ}
use Rattle.lists.specs.Lists.{assign}
use Rattle.serial.specs.Frame.{Frame, start_frame}
use Rattle.serial.specs.Desk.{Desk, Call, request, visit, desk_called, Answer, is_refused, sent}
use Rattle.serial.specs.System.{System}
use Rattle.serial.specs.Step.{serve}

-- State is what a desk keeps from call to call, C a call with all that it brings, A all that a call leaves and answers; an answer is
-- read with its call, which has the client's word. Ok is what a history keeps of the state at desk q, and Fine what is given of every
-- call: that its words are words, and the like.
pub record Machine (S : System) : Type 1 where
  pub State : Type 0
  pub C : Type 0
  pub A : Type 0
  pub does : State → C → State × A
  pub view : State → Desk S.Op
  pub call_of : C → Call S.Op S.Extra
  pub answer_of : C → A → Answer S.Reply
  pub Ok : ℕ → State → Type 0
  pub Fine : C → Type 0
  -- each call, at a desk below n, is the abstract one
  pub ok_does : (d : State) (c : C) → desk_called (call_of c) < S.n → Fine c → Ok (desk_called (call_of c)) d →
      Ok (desk_called (call_of c)) (does d c).0
  pub view_does : (d : State) (c : C) → desk_called (call_of c) < S.n → Fine c → Ok (desk_called (call_of c)) d →
      view (does d c).0 ≡ (serve S (view d) (call_of c)).0
  pub answer_does : (d : State) (c : C) → desk_called (call_of c) < S.n → Fine c → Ok (desk_called (call_of c)) d →
      answer_of c (does d c).1 ≡ (serve S (view d) (call_of c)).1

-- ---- its histories

module _ {S : System} (M : Machine S) where
  open M use {State, C, A, does, view, call_of, answer_of}

  abbrev pub at_desk : C → ℕ
  at_desk c = desk_called (call_of c)

  abbrev pub machine_step : (ℕ → State) → C → ℕ → State
  machine_step w c = assign (at_desk c) (does (w (at_desk c)) c).0 w

  abbrev pub machine_after : (ℕ → State) → List C → ℕ → State
  machine_after w [] = w
  machine_after w (c ∷ cs) = machine_after (machine_step w c) cs

  -- the desks and the answers as the abstract protocol sees them
  abbrev pub seen : (ℕ → State) → ℕ → Desk S.Op
  seen w q = view (w q)

  abbrev pub answer_seen : (ℕ → State) → C → Answer S.Reply
  answer_seen w c = answer_of c (does (w (at_desk c)) c).1

  abbrev pub answers_seen : (ℕ → State) → List C → List (Answer S.Reply)
  answers_seen w [] = []
  answers_seen w (c ∷ cs) = answer_seen w c ∷ answers_seen (machine_step w c) cs

-- ---- its frames: W the words of a frame, shown those that a call brings, out those that an answer wrote

pub record Words {S : System} (M : Machine S) : Type 1 where
  pub W : Type 0
  pub frame_of : W → Frame
  pub shown : M.C → W
  pub out : M.A → List W
  pub start : W
  pub shown_frame : (c : M.C) (p : ℕ) (f : Frame) (x : S.Extra) → M.call_of c ≡ visit p f x → f ≡ frame_of (shown c)
  -- what is written reads back as the frame of the answer
  pub out_frame : (d : M.State) (c : M.C) → desk_called (M.call_of c) < S.n → M.Fine c → M.Ok (desk_called (M.call_of c)) d →
      sent (M.answer_of c (M.does d c).1) ≡ map frame_of (out (M.does d c).1)
  pub start_frame_lem : frame_of start ≡ start_frame

module _ {S : System} (M : Machine S) (N : Words M) where
  open M use {State, C, does, call_of, Fine}
  open N use {W, shown, out}

  abbrev pub IfVisit : Call S.Op S.Extra → Type 0 → Type 0
  IfVisit (request p r x) P = Unit {0}
  IfVisit (visit p f x) P = P

  -- the premise in the machine's own words: ws are the starting frame and what earlier accepted visits wrote
  abbrev pub MachineProper : (ℕ → State) → List W → List C → Type 0
  MachineProper w ws [] = Unit {0}
  MachineProper w ws (c ∷ cs) =
      (at_desk M c < S.n) × Fine c
      × (is_refused (answer_seen M w c) ≡ false → IfVisit (call_of c) (Memᴰ (shown c) ws))
      × MachineProper (machine_step M w c) (ws ++ out (does (w (at_desk M c)) c).1) cs
