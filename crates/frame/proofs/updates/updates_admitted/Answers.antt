-- One update more, counted for its desk.
-- Assumes nothing.
use Rattle.std.proofs.Common.{sym, ◌∙◌, arith, rules}
use Rattle.frame.proofs.Walking.{rest_counted}
use Rattle.frame.proofs.updates.updates_admitted.Goals as goal

pub loop-word-preserved : goal.loop-word-preserved
loop-word-preserved c =
    let formed = sym c.update_formed.ensures ∙ c.if-not-update_formed.false in
    let w = c.in-Some.word.now in
    let counted = rest_counted c.args.desks c.loop-word.sent c.loop-word.left w c.next.new.self.rest.now (omega arith) formed
    (omega arith) in
    (search rules, grind (arith, c.in-Some.ensures.steps))
