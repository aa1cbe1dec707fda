-- The rows of one step, joined into their set.
-- Assumes nothing.
use mathlib.Core.Path.{sym}
use borrow.Author.Rules.{rules}
use Rattle.partitioning.proofs.Marking.{mark_past, mark_open_lem, mark_desk0, mark_own, mark_every}
use Rattle.partitioning.proofs.touched.Touched.mark.Goals as goal

pub returns-then-word-gt4 : goal.returns-then-word-gt4
returns-then-word-gt4 c = sym (mark_past _ _ _ c.if-word-gt4.true)

pub returns-then-partitioning-eq-OPEN : goal.returns-then-partitioning-eq-OPEN
returns-then-partitioning-eq-OPEN c = sym (mark_open_lem _ _ _ c.if-partitioning-eq-OPEN.true)

pub returns-then-partitioning-eq-UNPARTITIONED : goal.returns-then-partitioning-eq-UNPARTITIONED
returns-then-partitioning-eq-UNPARTITIONED c = search (rules, mark_desk0)

pub returns-then-word-partitioning : goal.returns-then-word-partitioning
returns-then-word-partitioning c = search (rules, mark_own)

pub returns-else-word-partitioning : goal.returns-else-word-partitioning
returns-else-word-partitioning c = search (rules, mark_every)
