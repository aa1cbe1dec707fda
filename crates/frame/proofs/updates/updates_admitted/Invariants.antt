-- Question 12 over the words: what is still to come gives the whole answer.
-- Assumes nothing.
use Rattle.std.proofs.Common.{◌≡◌, length}
use Rattle.frame.specs.Admission.{updates_admitted}
use Rattle.frame.proofs.Walking.{rest}
use Rattle.frame.proofs.updates.updates_admitted.Given as goal

abbrev pub invariant-loop-word : goal.invariant-loop-word
invariant-loop-word l =
    (length l.sent ≡ 8) × (rest l.desks l.sent l.left l.words.rest.now ≡ updates_admitted l.desks l.fn.body)
