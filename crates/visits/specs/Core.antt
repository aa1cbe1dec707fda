-- What a visit's questions give once all are answered with yes, but for the snapshot.
use Rattle.std.specs.Prelude.{ℕ, ◌≤◌, ◌<◌, ◌≡◌, true, List, length}
use Rattle.verdict.specs.Verdict.{accepted}
use Rattle.std.specs.List.{list_all}
use Rattle.plan.specs.Decode.{plan_of}
use Rattle.plan.specs.Admission.{plan_verdict}
use Rattle.operation.specs.Store.{store_size}
use Rattle.frame.specs.Frame.{longest_frame}
use Rattle.frame.specs.Admission.{frame_verdict, frame_visit}
use Rattle.queue.specs.Queue.{queue_size}
use Rattle.desk.specs.Holding.{Holding, waiting_at}
use Rattle.visits.specs.Waiting.{replies_size}
use Rattle.visits.specs.Running.{is_operation}

pub record Passable (ws : List ℕ) (h : Holding) (f out replies : List ℕ) : Type 0 where
  pub plan : plan_verdict ws ≡ accepted
  pub cells_long : length h.cells ≡ store_size
  pub queue_long : length h.queue ≡ queue_size
  pub room : longest_frame ≤ length out
  pub reply_room : replies_size ≤ length replies
  pub desk : h.state.desk < (plan_of ws).desks
  pub waiting : h.state.waiting ≤ queue_size
  pub operations : list_all (is_operation (plan_of ws)) (waiting_at h) ≡ true
  pub frame : frame_verdict (plan_of ws).desks f ≡ accepted
  pub visit : frame_visit f < 4294967295
