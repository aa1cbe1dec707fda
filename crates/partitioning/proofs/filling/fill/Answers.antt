-- The open fields, filled where they stand.
-- Assumes nothing.
use mathlib.Core.Path.{refl}
use native.Mathlib.Omega.{arith}
use Rattle.std.proofs.lemmas.List.{set-get_or}
use borrow.Author.Rules.{rules}
use Rattle.partitioning.proofs.FillWalk.{some_behind, filled_open, filled_not, filled_done}
use Rattle.partitioning.proofs.filling.fill.Goals as goal
use Rattle.partitioning.proofs.filling.fill.Goals.{then-is_open, else-is_open}

pub loop-word-init : goal.loop-word-init
loop-word-init c = record { long = refl; left = c.requires; filled = refl }

pub next_field-requires : goal.next_field-requires
next_field-requires c = search (rules, some_behind)

pub loop-word-preserved : goal.loop-word-preserved
loop-word-preserved c =
    elim c.if-is_open.branch [
      | then-is_open w ↦
          filled_open _ _ _ _ _ _ c.loop-word.invariant _ w.with_field.result _ _ (omega arith) (cc) (cc) (cc) (cc) (cc)
      | else-is_open w ↦ rw (w.plan-is, set-get_or, w.left-is) (filled_not _ _ _ _ _ _ c.loop-word.invariant (omega arith) (cc))
    ]

pub returns : goal.returns
returns c = filled_done _ _ _ _ _ _ c.loop-word.invariant (omega arith)
