-- Question 4 of a transaction's word: the tests on the partitioning field are those of the definition.
-- Assumes nothing.
use borrow.Author.Tests.{lt-ltb, le-ltb}
use mathlib.Core.Bool.{true, or-false, or-true}
use mathlib.Core.Path.{◌≡◌, refl, ◌∙◌, sym}
use Prim.Native.Nat.{ℕ}
use Rattle.plan.specs.Plan.{Partitioning}
use Rattle.plan.specs.Decode.{names_no_parameter, part_by}
use Rattle.plan.specs.Admission.{part_exists}
use Rattle.plan.proofs.Partitionings.{names_parameter, no_parameter_elim}
use Rattle.plan.proofs.form.partitioning_missing.Goals as goal

none_exists : (n q : ℕ) → names_no_parameter q ≡ true → part_exists n (part_by q) ≡ true
unfolding part_exists
none_exists n q h = no_parameter_elim (λ (p : Partitioning). part_exists n p ≡ true) q h refl refl

pub returns-then-names_no_parameter : goal.returns-then-names_no_parameter
returns-then-names_no_parameter c =
    rw (none_exists _ _ (sym c.names_no_parameter.ensures ∙ c.if-names_no_parameter.true)) (sym (or-false _))

pub returns-then-partitioning-parameters : goal.returns-then-partitioning-parameters
unfolding part_exists
returns-then-partitioning-parameters c =
    rw (names_parameter _ (sym c.names_no_parameter.ensures ∙ c.if-names_no_parameter.false), lt-ltb _ _ c.if-partitioning-parameters.true)
    (sym (or-false _))

pub returns : goal.returns
unfolding part_exists
returns c =
    rw (names_parameter _ (sym c.names_no_parameter.ensures ∙ c.if-names_no_parameter.false), le-ltb _ _ c.if-partitioning-parameters.false)
    (sym (or-true c.args.missing))
