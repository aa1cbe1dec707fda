-- What a desk holds.
use Rattle.std.specs.Prelude.{ℕ, List}
use Rattle.queue.specs.declared.record.Request.{Request}
use Rattle.desk.specs.declared.state.Desk.{Desk}
use Rattle.desk.specs.Queueing.{waiting_in}

-- "State, book and row pass from call to call at their desk." The cells are its book, the queue its row of records.
pub record Holding : Type 0 where
  pub state : Desk
  pub cells : List ℕ
  pub queue : List Request

abbrev pub holding : Desk → List ℕ → List Request → Holding
holding d cells queue = record { state = d; cells = cells; queue = queue }

-- the requests that wait there
abbrev pub waiting_at : Holding → List Request
waiting_at h = waiting_in h.state.waiting h.queue
