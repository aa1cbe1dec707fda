-- What the computed masks and the computed test of writing say, over all operations of an accepted plan.
--     MaskHasToucher    a desk is in a cell's mask exactly if some operation of it may touch the cell
--     OneDeskMask       the mask has one 1 exactly if just one desk may touch the cell
--     WrittenMeans      the test says yes exactly if some operation may write the cell
use Rattle.std.specs.Prelude.{◌≡◌, true, List, ◌↔◌, ℕ, ◌<◌}
use Rattle.std.specs.Int.Count.{ones}
use Rattle.verdict.specs.Verdict.{accepted}
use Rattle.plan.specs.Plan.{Plan}
use Rattle.plan.specs.Decode.{plan_of}
use Rattle.plan.specs.Admission.{plan_verdict}
use Rattle.operation.specs.Operation.{Operation, desk_of, MayWrite, MayTouch}
use Rattle.operation.specs.Admission.{IsOperation}
use Rattle.conflict.specs.Mask.{in_mask}
use Rattle.conflict.specs.Touch.{desk_mask}
use Rattle.conflict.specs.Class.{JustOne}
use Rattle.conflict.specs.Written.{written}

-- some operation of desk d may touch the cell
abbrev pub Toucher : Plan → ℕ → ℕ → Type 0
Toucher p d c = (o : Operation) × IsOperation p o × (desk_of p o ≡ d) × MayTouch p o c

-- some operation may write the cell
abbrev pub Writer : Plan → ℕ → Type 0
Writer p c = (o : Operation) × IsOperation p o × MayWrite p o c

-- "The desks whose operations may touch a cell form a mask"
abbrev pub MaskHasToucher : Type 0
MaskHasToucher = (ws : List ℕ) → plan_verdict ws ≡ accepted → (c d : ℕ) → d < (plan_of ws).desks
    → (in_mask (desk_mask (plan_of ws) c) d ≡ true) ↔ Toucher (plan_of ws) d c

-- "and the number of desks is the count of ones in it"
abbrev pub OneDeskMask : Type 0
OneDeskMask = (ws : List ℕ) → plan_verdict ws ≡ accepted → (c : ℕ)
    → (ones (desk_mask (plan_of ws) c) ≡ 1) ↔ ((d : ℕ) × JustOne (plan_of ws) c d)

-- "no operation of the plan may write a cell it may read"
abbrev pub WrittenMeans : Type 0
WrittenMeans = (ws : List ℕ) → plan_verdict ws ≡ accepted → (c : ℕ) → (written (plan_of ws) c ≡ true) ↔ Writer (plan_of ws) c
