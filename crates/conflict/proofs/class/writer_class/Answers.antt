-- The class of an operation that writes: one that is global has a cause.
-- Assumes nothing.
use Rattle.std.proofs.Common.{rules}
use Rattle.conflict.proofs.Answers.{has_cause}
use Rattle.conflict.proofs.class.writer_class.Goals as goal

pub unwrap-cause-requires : goal.unwrap-cause-requires
unwrap-cause-requires c = search (rules, has_cause)
