-- 02, A.6: "The waiting row holds urgent requests before the others, each sort by arrival".
--     WaitingInOrderThroughout          at every moment of a history: behind its calls `cs`, whatever calls `rest` come then
use Rattle.std.specs.Prelude.{ℕ, ◌≡◌, List, ◌++◌, map}
use Rattle.verdict.specs.Verdict.{accepted}
use Rattle.plan.specs.Decode.{plan_of}
use Rattle.plan.specs.Admission.{plan_verdict}
use Rattle.operation.specs.Operation.{Operation}
use Rattle.conflict.specs.Class.{Class}
use Rattle.queue.specs.declared.record.Request.{Request}
use Rattle.desk.specs.Queueing.{is_urgent, urgent_first}
use Rattle.desk.specs.Holding.{waiting_at}
use Rattle.history.specs.History.{Call, is_refused, outcomes, holdings_after, start, ProperFromStart}
use Rattle.history.specs.SerialRun.{Classifies}
use Rattle.history.specs.WaitingOrder.{arrivals}

abbrev pub WaitingInOrderThroughout : Type 0
WaitingInOrderThroughout =
    (plan : List ℕ) → plan_verdict plan ≡ accepted → (class : Operation → Class) → Classifies (plan_of plan) class
    → (cells : List ℕ) (rows : ℕ → List Request) (snapshots : ℕ → List ℕ) (cs rest : List Call)
    → ProperFromStart plan cells rows snapshots (cs ++ rest) → (q : ℕ)
    → let w = start cells rows snapshots in
    waiting_at (holdings_after plan w cs q).holding
    ≡ urgent_first (is_urgent (plan_of plan)) (arrivals (plan_of plan) class q cs (map is_refused (outcomes plan w cs)))
