-- Cells that two or more desks may touch: over all operations, and computed.
--     Shared, is_shared     the notion, and the test by the count of ones in the mask
--     SharedMeans           the test says yes exactly if two or more desks may touch the cell
--     OneDeskNoneShared     with one desk there is no such cell
use Rattle.std.specs.Prelude.{◌≡◌, Bool, true, List, ◌↔◌, ℕ, leb}
use Rattle.std.specs.Int.Count.{ones}
use Rattle.verdict.specs.Verdict.{accepted}
use Rattle.plan.specs.Plan.{Plan}
use Rattle.plan.specs.Decode.{plan_of}
use Rattle.plan.specs.Admission.{plan_verdict}
use Rattle.conflict.specs.Touch.{desk_mask}
use Rattle.conflict.specs.Meaning.{Toucher}

-- "two or more desks may touch" it: there are two, and of each some operation may
abbrev pub Shared : Plan → ℕ → Type 0
Shared p c = (d : ℕ) × (e : ℕ) × (d ≡ e → ⊥) × Toucher p d c × Toucher p e c

-- "the number of desks is the count of ones in it"
abbrev pub is_shared : ℕ → Bool
is_shared mask = leb 2 (ones mask)

abbrev pub SharedMeans : Type 0
SharedMeans = (ws : List ℕ) → plan_verdict ws ≡ accepted → (c : ℕ)
    → (is_shared (desk_mask (plan_of ws) c) ≡ true) ↔ Shared (plan_of ws) c

abbrev pub OneDeskNoneShared : Type 0
OneDeskNoneShared = (ws : List ℕ) → plan_verdict ws ≡ accepted → (plan_of ws).desks ≡ 1 → (c : ℕ) → Shared (plan_of ws) c → ⊥
