-- One more that tells, exactly where the word has kind 13.
-- Assumes nothing.
use borrow.Author.Tests.{eq-eqb, ne_eqb}
use native.Mathlib.Nat.{add-zero}
use mathlib.Core.Path.{sym}
use Rattle.plan.proofs.Words.{tell_of}
use Rattle.plan.proofs.form.tells_with.Goals as goal

pub returns-then-word-eq13 : goal.returns-then-word-eq13
returns-then-word-eq13 c = simp (tell_of c.args.word, eq-eqb _ _ c.if-word-eq13.true)

pub returns : goal.returns
returns c = simp (tell_of c.args.word, ne_eqb _ _ c.if-word-eq13.false) (sym (add-zero _))
