-- The operation that a request asks for.
use Rattle.std.specs.Prelude.{◌≡◌}
use Rattle.plan.specs.Plan.{Plan}
use Rattle.plan.specs.Transaction.{the_transaction}
use Rattle.operation.specs.Operation.{transaction_of}
use Rattle.operation.specs.declared.operation.Operation.{Operation}
use Rattle.queue.specs.Queue.{params_of}
use Rattle.queue.specs.declared.record.Request.{Request}
use Rattle.desk.specs.Queueing.{operation_of}

-- its transaction and its parameters are those of the request
pub record IsAsked (p : Plan) (r : Request) (o : Operation) : Type 0 where
  pub transaction : the_transaction o.transaction ≡ transaction_of p (operation_of r)
  pub params : o.params ≡ params_of r
