-- The history's start is what the new desk call gives, and the computed class is a right one: the claim speaks of the engine as it is.
-- Assumes nothing.
use mathlib.Core.Path.{◌≡◌, refl}
use borrow.Author.Tests.{lt-ltb}
use Rattle.plan.specs.Decode.{plan_of}
use Rattle.conflict.specs.Class.{Class, free, local, global, class_of}
use Rattle.conflict.proofs.Classes.{class_free, class_local, class_global}
use Rattle.desk.specs.Answer.{new_desk_result}
use Rattle.history.specs.History.{NewDeskStarts}
use Rattle.history.specs.SerialRun.{Is, ComputedClassifies}
use Rattle.history.specs.Claim.{ComputedClaim}
use Rattle.history.proofs.Claim.{serializable}

-- "each desk is as the new desk call gives it"
pub new_desk_starts : NewDeskStarts
unfolding new_desk_result
new_desk_starts plan accept p h = rw (accept, lt-ltb p (plan_of plan).desks h) refl

-- the class that `classify` and `request` compute
pub computed_classifies : ComputedClassifies
computed_classifies plan accept o i = go (class_of (plan_of plan) o) refl
  where
    go : (k : Class) → class_of (plan_of plan) o ≡ k → Is (plan_of plan) o k
    go free e = (class_free plan accept o i).0 e
    go local e = (class_local plan accept o i).0 e
    go global e = (class_global plan accept o i).0 e

-- the claim with that class
pub serializable_computed : ComputedClaim
serializable_computed plan accept = serializable plan accept (class_of (plan_of plan)) (computed_classifies plan accept)
