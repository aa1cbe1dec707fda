-- Question 12: the addressed desk, then the updates.
-- Assumes nothing.
use Rattle.std.proofs.Common.{◌≡◌, ℕ, ◌-◌, length, take, drop, ap, ◌∙◌, arith, eq-eqb, ne_eqb}
use Rattle.frame.specs.Admission.{updates_right, updates_admitted}
use Rattle.frame.proofs.reader.updates_right.Goals as goal

pub returns-then-head-visit : goal.returns-then-head-visit
unfolding updates_right
returns-then-head-visit c = simp (ne_eqb _ _ c.if-head-visit.true)

pub returns : goal.returns
unfolding updates_right
returns c =
    let a = c.args in
    let w = a.frame.now in
    let e : length w - 2 - 2 ≡ length w - 4 = omega arith in
    simp (eq-eqb _ _ c.if-head-visit.false)
    (c.updates_admitted.ensures ∙ ap (λ (k : ℕ). updates_admitted a.desks (take k (drop 2 w))) e)
