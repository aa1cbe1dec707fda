-- The desk's own words on a waiting record: the operation in it, whether it is urgent, the queue as far as requests wait, and the rule of
-- joining it.
use Rattle.std.specs.Prelude.{ℕ, Bool, not, List, [], ◌∷◌, ◌++◌, take}
use Rattle.std.specs.List.{filter}
use Rattle.plan.specs.Plan.{Plan}
use Rattle.operation.specs.Operation.{Operation, operation, urgent_of}
use Rattle.queue.specs.Queue.{params_of}
use Rattle.queue.specs.declared.record.Request.{Request}

-- "each the client's word, the transaction and four parameters"
abbrev pub operation_of : Request → Operation
operation_of r = operation r.transaction (params_of r)

-- "Bit 7 of a transaction word marks it urgent."
abbrev pub is_urgent : Plan → Request → Bool
is_urgent p r = urgent_of p (operation_of r)

-- "the waiting requests lie in a lent row of 32 records": the first `waiting` records
abbrev pub waiting_in : ℕ → List Request → List Request
waiting_in waiting queue = take waiting queue

-- "urgent requests before the others, each sort by arrival", of requests in the order of their arrival
abbrev pub urgent_first : {A : Type 0} → (A → Bool) → List A → List A
urgent_first urgent rs = filter urgent rs ++ filter (λ r. not (urgent r)) rs

-- how a request joins those that wait, "in the order laid down for the row": it is the latest of its sort
abbrev pub join_queue : {A : Type 0} → (A → Bool) → List A → A → List A
join_queue urgent waiting r = urgent_first urgent (waiting ++ (r ∷ []))
