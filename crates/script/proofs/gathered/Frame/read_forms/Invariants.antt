-- Each form takes bytes of the line.
use Rattle.std.proofs.Common.{length}
use Rattle.script.proofs.gathered.Frame.read_forms.Given as goal

abbrev pub decreases-loop-name : goal.decreases-loop-name
decreases-loop-name l = length l.line.rest.now
