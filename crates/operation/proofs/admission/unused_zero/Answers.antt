-- Question 8 of the parameters that are not used: the test of each of them.
-- Assumes nothing.
use Rattle.std.proofs.Common.{ℕ, eqb, length, take, drop, ◌-◌, ◌≡◌, ◌∙◌, ap, arith, rules, tests}
use Rattle.std.specs.List.{list_all}
use Rattle.std.proofs.Math.Seq.{take-length}
use lib.ListN.{length-drop}
use Rattle.std.proofs.lemmas.Iterator.{YieldsList-from_slice}
use Rattle.std.proofs.lemmas.Iterator.Search.{all_from_yields_List}
use Rattle.operation.specs.Admission.{unused_zero}
use Rattle.operation.proofs.admission.unused_zero.Goals as goal

pub returns : goal.returns
unfolding unused_zero
returns c =
    let rest = drop c.args.count c.args.params.now in
    let whole : 4 - c.args.count ≡ length rest = omega (arith, length-drop c.args.count c.args.params.now, c.told-params) in
    all_from_yields_List (λ w. eqb w 0) _ _ c.all.result c.all.ensures.ran (YieldsList-from_slice (take (4 - c.args.count) rest) cc)
    (λ x b q k. search (rules, tests))
    ∙ ap (λ (n : ℕ). list_all (λ w. eqb w 0) (take n rest)) whole
    ∙ ap (list_all (λ w. eqb w 0)) (take-length rest)
