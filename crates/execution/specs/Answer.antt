-- What the code's updates and outcomes of a run say in the definition's terms.
use Rattle.std.specs.Prelude.{ℕ, Option, Some, None, take}
use Rattle.operation.specs.Store as store
use Rattle.execution.specs.Run as run
use Rattle.execution.specs.declared.update.Update.{Update}
use Rattle.execution.specs.declared.outcome.Outcome.{Outcome}

-- "the list of written cells and values in step order"
abbrev pub update_of : Update → store.Update
update_of u = take u.count u.pairs

abbrev pub outcome_of : Outcome → run.Outcome
outcome_of o = record { reply = o.reply; update = update_of o.update }

-- the accumulator behind a step, or the stop of the run
abbrev pub next_of : Option ℕ → run.Next
next_of (Some x) = run.continues x
next_of None = run.stops
