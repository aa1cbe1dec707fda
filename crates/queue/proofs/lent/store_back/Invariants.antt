-- `queue::lent::store_back`: the records before the place are stored. Where the first place is past the last record that waits, none is.
use Rattle.std.proofs.Common.{◌≡◌, ◌≤◌, max}
use Rattle.queue.specs.Words.{stored_back}
use Rattle.queue.proofs.lent.store_back.Given as goal

abbrev pub invariant-loop-at : goal.invariant-loop-at
invariant-loop-at l =
    record { ends : l.at ≤ max l.from l.at-end; stored : l.queue ≡ stored_back l.initial.queue l.row l.from l.at }
