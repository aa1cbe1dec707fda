-- Each size takes bytes of the line.
use Rattle.std.proofs.Common.{length}
use Rattle.script.proofs.lent.Lent.read.Given as goal

abbrev pub decreases-loop-name : goal.decreases-loop-name
decreases-loop-name l = length l.line.rest.now
