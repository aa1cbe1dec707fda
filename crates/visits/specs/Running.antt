-- What running waiting requests at a desk asks and leaves: the store, and the words behind the front of the outgoing words and replies.
use Rattle.std.specs.Prelude.{ℕ, ◌*◌, ◌≤◌, ◌≡◌, Bool, true, List, map, length}
use Rattle.verdict.specs.Verdict.{is_accepted}
use Rattle.std.specs.List.{list_all}
use Rattle.lists.specs.Lists.{overwritten}
use Rattle.plan.specs.Plan.{Plan}
use Rattle.operation.specs.Admission.{operation_verdict}
use Rattle.operation.specs.Store.{Store, apply_update}
use Rattle.execution.specs.Run.{Outcome, run_transaction, run}
use Rattle.plan.specs.Transaction.{the_transaction}
use Rattle.operation.specs.declared.operation.Operation.{Operation}
use Rattle.frame.specs.Frame.{sent, update_words, updates_words}
use Rattle.queue.specs.declared.record.Request.{Request}
use Rattle.desk.specs.Queueing.{operation_of}
use Rattle.visits.specs.Waiting.{run_all, updates_of, Answered, answered, replies_of, reply_size, reply_words, replies_words}

-- a record's operation passes questions 7 and 8
abbrev pub is_operation : Plan → Request → Bool
is_operation p r = is_accepted (operation_verdict p (operation_of r))

-- the reply to a request, with its client's word
abbrev pub reply_to : Plan → Request → Store → Answered
reply_to p r s = answered r.client (run p (operation_of r) s).reply

-- ---- one request's operation

-- the run of an operation
abbrev pub run_of : Operation → Store → Outcome
run_of o s = run_transaction (the_transaction o.transaction) o.params s

-- the words of the update that it makes
abbrev pub made_words : Operation → ℕ → Store → List ℕ
made_words o desk s = update_words (sent desk (run_of o s).update)

pub record Runs (o : Operation) (desk : ℕ) (cells out replies : List ℕ) : Type 0 where
  pub room : length (made_words o desk cells) ≤ length out
  pub reply_room : reply_size ≤ length replies

-- `words` outgoing words are written
pub record Ran (o : Operation) (client desk : ℕ) (cells out replies : List ℕ) (words : ℕ) (cells' out' replies' : List ℕ) : Type 0 where
  pub count : words ≡ length (made_words o desk cells)
  pub store : cells' ≡ apply_update (run_of o cells).update cells
  pub update : out' ≡ overwritten (made_words o desk cells) out
  pub reply : replies' ≡ overwritten (reply_words (answered client (run_of o cells).reply)) replies

-- ---- all of them, in order

unfoldable pub all_made : Plan → ℕ → List Request → Store → List ℕ
all_made p desk rs s = updates_words (map (sent desk) (updates_of p rs s))

unfoldable pub all_replies : Plan → List Request → Store → List ℕ
all_replies p rs s = replies_words (replies_of p rs s)

pub record AllRun (p : Plan) (rs : List Request) (desk : ℕ) (cells out replies : List ℕ) : Type 0 where
  pub operations : list_all (is_operation p) rs ≡ true
  pub room : length (all_made p desk rs cells) ≤ length out
  pub reply_room : reply_size * length rs ≤ length replies

pub record AllRan (p : Plan) (rs : List Request) (desk : ℕ) (cells out replies : List ℕ) (words : ℕ)
    (cells' out' replies' : List ℕ) : Type 0 where
  pub count : words ≡ length (all_made p desk rs cells)
  pub store : cells' ≡ run_all p rs cells
  pub updates : out' ≡ overwritten (all_made p desk rs cells) out
  pub answers : replies' ≡ overwritten (all_replies p rs cells) replies
