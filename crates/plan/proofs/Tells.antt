-- No transaction of an accepted plan has more than four steps that tell.
-- Assumes nothing.
use mathlib.Core.Path.{ap}
use Prim.Native.Nat.{◌≤◌}
use native.Mathlib.Omega.{arith}
use lib.ListN.{length, get_or-eq_default}
use Rattle.lists.proofs.Laws.{by_less}
use Rattle.word.specs.Field.{head_transactions}
use Rattle.plan.specs.Plan.{Transaction, no_transaction}
use Rattle.plan.specs.Decode.{head_of, plan_of}
use Rattle.plan.specs.Admission.{tell_count, TellsFew}
use Rattle.plan.proofs.Accepted.{transaction_count}
use Rattle.plan.proofs.Places.{stands_at_lem, transaction_is}

pub tells_few : TellsFew
unfolding tell_count
tells_few ws e k =
    by_less k (head_transactions (head_of ws))
    (λ h. omega (arith, ap (λ (t : Transaction). tell_count t.steps) (transaction_is ws e k h), (stands_at_lem ws e k h).tells_few))
    (λ h. let past : length (plan_of ws).transactions ≤ k = omega (arith, transaction_count ws e) in
    let none = ap (λ (t : Transaction). tell_count t.steps) (get_or-eq_default (plan_of ws).transactions no_transaction past) in
    omega (arith, none))
