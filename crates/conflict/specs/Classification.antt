-- The computed class is the one that 01 defines over all operations, and 01's local is 002's.
use Rattle.std.specs.Prelude.{◌≡◌, ◌↔◌, List, ℕ}
use Rattle.verdict.specs.Verdict.{accepted}
use Rattle.plan.specs.Plan.{Plan}
use Rattle.plan.specs.Decode.{plan_of}
use Rattle.plan.specs.Admission.{plan_verdict}
use Rattle.operation.specs.Operation.{Operation}
use Rattle.operation.specs.Admission.{IsOperation}
use Rattle.conflict.specs.Class.{OtherDesk, Free, Local, Global, WriteConflict, ReadsFrom, Class, free, local, global, class_of}

-- an operation of an accepted plan is given class k exactly if M holds of it
abbrev pub ClassMeans : Class → (Plan → Operation → Type 0) → Type 0
ClassMeans k M =
    (ws : List ℕ) → plan_verdict ws ≡ accepted → (o : Operation) → IsOperation (plan_of ws) o
    → (class_of (plan_of ws) o ≡ k) ↔ M (plan_of ws) o

abbrev pub FreeMeans : Type 0
FreeMeans = ClassMeans free Free

abbrev pub LocalMeans : Type 0
LocalMeans = ClassMeans local Local

abbrev pub GlobalMeans : Type 0
GlobalMeans = ClassMeans global Global

-- 002, section 3.2: no write conflict with an operation of another desk, and none of another desk reads from it
abbrev pub LocalByConflicts : Type 0
LocalByConflicts =
    (p : Plan) (o : Operation)
    → Local p o ↔ ((Free p o → ⊥) × ((o' : Operation) → IsOperation p o' → OtherDesk p o o' → (WriteConflict p o o' → ⊥)
    × (ReadsFrom p o' o → ⊥)))

-- "With one desk nothing is global."
abbrev pub OneDeskNoGlobal : Type 0
OneDeskNoGlobal = (ws : List ℕ) → plan_verdict ws ≡ accepted → (plan_of ws).desks ≡ 1 → (o : Operation) → Global (plan_of ws) o → ⊥
