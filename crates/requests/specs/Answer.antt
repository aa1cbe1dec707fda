-- What each answer to a request says in the paper's numbers and values.
use Rattle.std.specs.Prelude.{ℕ, List, Result, Ok, Err}
use Rattle.verdict.specs.Verdict.{question_of}
use Rattle.verdict.specs.declared.Refusal.{Refusal}
use Rattle.queue.specs.declared.record.Request.{Request}
use Rattle.desk.specs.declared.state.Desk.{Desk}
use Rattle.requests.specs.declared.answer.RequestAnswer.{RequestAnswer}
use Rattle.requests.specs.declared.answer.RequestAnswer.TheVariants as request
use Rattle.requests.specs.declared.answer.RequestResult.{RequestResult}
use Rattle.requests.specs.Request as asked

abbrev pub response_of : Result RequestAnswer Refusal → asked.Response
response_of (Ok (request.Replied reply)) = asked.replied reply
response_of (Ok request.Waits) = asked.waits
response_of (Ok (request.Elsewhere d)) = asked.redirected d
response_of (Err r) = asked.request_refused (question_of r)

-- an answer with the state behind it, or a refusal, with which the state stays
abbrev pub result_of : Result (RequestAnswer × Desk) Refusal → Desk → RequestResult
result_of (Ok x) d = record { answer = Ok x.0; state = x.1 }
result_of (Err r) d = record { answer = Err r; state = d }

-- a request's result with the store and the queue that it left
abbrev pub requested_of : RequestResult → List ℕ → List Request → asked.Requested
requested_of r cells queue = record { answer = response_of r.answer; state = r.state; cells = cells; queue = queue }
