-- What the code's iterator over the records that wait stands for.
use Rattle.std.specs.Prelude.{List, take, drop}
use Rattle.queue.specs.Words.{records_in}
use Rattle.queue.specs.declared.record.Request.{Request}
use Rattle.queue.specs.declared.waiting.Waiting.{Waiting}

-- the records that are left
abbrev pub the_waiting : Waiting → List Request
the_waiting s = drop s.next (take s.end (records_in s.row.now))
