-- Question 4 of a step's word: one that tells names no parameter; the tests on the source of any other are those of the definition.
-- Assumes nothing.
use borrow.Author.Tests.{eq-eqb, ne_eqb, lt-ltb, le-ltb}
use mathlib.Core.Bool.{or-false, or-true}
use mathlib.Core.Path.{sym}
use Rattle.plan.proofs.Words.{tell_exists, step_exists_lem}
use Rattle.plan.proofs.form.step_missing.Goals as goal

pub returns-then-word-eq13 : goal.returns-then-word-eq13
returns-then-word-eq13 c =
    simp (tell_exists c.args.parameters c.args.word c.if-word-eq13.true) (sym (or-false _))

pub returns-then-source-eq7 : goal.returns-then-source-eq7
returns-then-source-eq7 c =
    simp (
      step_exists_lem c.args.parameters c.args.word c.requires c.if-word-eq13.false,
      ← c.source-source.ensures,
      eq-eqb _ _ c.if-source-eq7.true,
    )
    (sym (or-false _))

pub returns-then-source-parameters : goal.returns-then-source-parameters
returns-then-source-parameters c =
    simp (
      step_exists_lem c.args.parameters c.args.word c.requires c.if-word-eq13.false,
      ← c.source-source.ensures,
      ne_eqb _ _ c.if-source-eq7.false,
      lt-ltb _ _ c.if-source-parameters.true,
    )
    (sym (or-false _))

pub returns : goal.returns
returns c =
    simp (
      step_exists_lem c.args.parameters c.args.word c.requires c.if-word-eq13.false,
      ← c.source-source.ensures,
      ne_eqb _ _ c.if-source-eq7.false,
      le-ltb _ _ c.if-source-parameters.false,
    )
    (sym (or-true c.args.missing))
