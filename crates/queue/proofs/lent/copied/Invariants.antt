-- `queue::lent::copied`: the words are those of the queue's first records, as many as were read, and zeros behind them.
use Rattle.std.proofs.Common.{◌≡◌}
use Rattle.queue.specs.Words.{stored_first}
use Rattle.queue.proofs.lent.copied.Given as goal

abbrev pub invariant-loop-at : goal.invariant-loop-at
invariant-loop-at l = l.row ≡ stored_first l.at l.queue
