-- A desk's state, the calls made at it, and the answers.
use Rattle.std.specs.Prelude.{ℕ, Bool, true, false, List, [], ◌∷◌}
use Rattle.serial.specs.Store.{Store}
use Rattle.serial.specs.Frame.{Frame}

-- what a request brings: "the client's word" and the operation, "the transaction and four parameters"
pub record Request (Op : Type 0) : Type 0 where
  pub client : ℕ
  pub op : Op

-- "State, book and row": the store, the queue of waiting requests (01: row, line), and the awaited number
pub record Desk (Op : Type 0) : Type 0 where
  pub store : Store
  pub queue : List (Request Op)
  pub awaited : ℕ

-- "A history is a list of requests and visits, each at a desk". Extra is all else that a call brings: "the sizes and contents of
-- outgoing and reply buffers are any"
pub data Call (Op Extra : Type 0) : Type 0 where
  request : ℕ → Request Op → Extra → Call Op Extra
  visit : ℕ → Frame → Extra → Call Op Extra

-- the desk called
abbrev pub desk_called : {Op Extra : Type 0} → Call Op Extra → ℕ
desk_called (request p r x) = p
desk_called (visit p f x) = p

-- refused; a request replied, queued, or sent to the operation's desk (01: "elsewhere"); a visit with its outgoing frame and replies.
-- A reply stands with its client's word.
pub data Answer (Reply : Type 0) : Type 0 where
  refused : Answer Reply
  replied : ℕ × Reply → Answer Reply
  waits : Answer Reply
  redirected : ℕ → Answer Reply
  forwarded : Frame → List (ℕ × Reply) → Answer Reply

-- "Accepted means not refused."
abbrev pub is_refused : {Reply : Type 0} → Answer Reply → Bool
is_refused refused = true
is_refused (replied r) = false
is_refused waits = false
is_refused (redirected d) = false
is_refused (forwarded f rs) = false

-- the replies that an answer gives
abbrev pub given : {Reply : Type 0} → Answer Reply → List (ℕ × Reply)
given refused = []
given (replied r) = r ∷ []
given waits = []
given (redirected d) = []
given (forwarded f rs) = rs

-- the frame that an answer hands on
abbrev pub sent : {Reply : Type 0} → Answer Reply → List Frame
sent refused = []
sent (replied r) = []
sent waits = []
sent (redirected d) = []
sent (forwarded f rs) = f ∷ []
