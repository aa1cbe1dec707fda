-- The lowest other desk in a mask: what `find` gives.
-- Assumes nothing.
use Rattle.std.proofs.Common.{◌≡◌, true, false, rules, tests}
use Rattle.std.proofs.lemmas.Iterator.{first_from_Range}
use Rattle.conflict.specs.Cause.{is_other, cause_desk}
use Rattle.conflict.proofs.Lowest.{found_lowest}
use Rattle.conflict.proofs.cause.cause_desk.Goals as goal

pub returns : goal.returns
unfolding cause_desk
returns c =
    let test = is_other c.args.mask c.args.desk in
    found_lowest 8 test c.find.result
    (first_from_Range _ c.find.new.self _ c.find.result (λ k. test k ≡ true) (λ k. test k ≡ false) c.find.ensures.ran
    (λ x q k. search (rules, tests)) (λ x q k. search (rules, tests)))
