-- What is left of a line once some of it is read.
use Rattle.std.specs.Prelude.{◌≤◌, length}
use Rattle.script.specs.declared.line.Line.{Line}

-- no byte is given back
abbrev pub GivesNothingBack : Line → Line → Type 0
GivesNothingBack before after = length after.rest.now ≤ length before.rest.now
