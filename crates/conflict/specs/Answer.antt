-- What the classifier answers, in the paper's classes, desks, causes and numbers.
--     Classified                    the answer
--     classified, classified_of     what the code's classes, and its results, stand for
--     classify_result               the answer to any words, transaction and parameters
--     AnswersGlobal                 it answers with this desk and this cause exactly if the operation is global and they are its own
use Rattle.std.specs.Prelude.{ℕ, ◌^◌, ◌<◌, ◌≡◌, List, Result, Ok, Err, ◌↔◌, length, get_or}
use Rattle.verdict.specs.Verdict.{accepted, ◌then◌, if_accepted, question_of}
use Rattle.verdict.specs.declared.Refusal.{Refusal}
use Rattle.plan.specs.Plan.{Transaction, Plan}
use Rattle.plan.specs.Decode.{plan_of}
use Rattle.plan.specs.Admission.{plan_verdict}
use Rattle.operation.specs.Operation.{operation, desk_by, desk_of}
use Rattle.operation.specs.Admission.{IsOperation, operation_verdict}
use Rattle.conflict.specs.Class as class
use Rattle.conflict.specs.Class.{Class, free, local, global, class_by, class_of}
use Rattle.conflict.specs.Cause.{IsCause, cause_by, cause_of}
use Rattle.conflict.specs.declared.cause.Cause.{Cause}
use Rattle.conflict.specs.declared.class.Class as declared
use Rattle.conflict.specs.declared.class.Class.TheVariants.{Free, Local, Global}

-- a class with its desk and, of a global one, its cause; or a question's number
pub data Classified : Type 0 where
  classed_free : Classified
  classed_local : ℕ → Classified
  classed_global : ℕ → Cause → Classified
  class_refused : ℕ → Classified

abbrev pub classified : declared.Class → Classified
classified Free = classed_free
classified (Local desk) = classed_local desk
classified (Global desk x) = classed_global desk x

abbrev pub classified_of : Result declared.Class Refusal → Classified
classified_of (Ok c) = classified c
classified_of (Err r) = class_refused (question_of r)

-- "Beside the class, give for a global operation" its cause; "Free and local operations carry none."
abbrev pub with_cause : Class → ℕ → Cause → Classified
with_cause free d x = classed_free
with_cause local d x = classed_local d
with_cause global d x = classed_global d x

-- the same by the transaction and the parameters
abbrev pub classified_by : Plan → Transaction → List ℕ → Classified
classified_by p t ps = with_cause (class_by p t ps) (desk_by p.desks t.part ps) (cause_by p t ps)

-- "Classifier: 1–4, 7, 8.", with 17 after 4
unfoldable pub classify_result : List ℕ → ℕ → List ℕ → Classified
classify_result ws k ps =
    if_accepted (plan_verdict ws then operation_verdict (plan_of ws) (operation k ps))
    (with_cause (class_of (plan_of ws) (operation k ps)) (desk_of (plan_of ws) (operation k ps)) (cause_of (plan_of ws) (operation k ps)))
    class_refused

-- of four parameter words: the answer is "global" with desk d and cause x exactly if the plan is accepted, the request is an operation of
-- it, which is global, and d and x are its desk and its cause
abbrev pub AnswersGlobal : Type 0
AnswersGlobal = (ws : List ℕ) (k : ℕ) (ps : List ℕ) → length ps ≡ 4 → ((i : ℕ) → get_or ps i 0 < 2 ^ 32) → (d : ℕ) (x : Cause)
    → (classify_result ws k ps ≡ classed_global d x)
    ↔ ((plan_verdict ws ≡ accepted) × IsOperation (plan_of ws) (operation k ps) × class.Global (plan_of ws) (operation k ps)
    × (desk_of (plan_of ws) (operation k ps) ≡ d) × IsCause (plan_of ws) (operation k ps) x)
