-- Waiting requests run one after another, each on the store as the one before left it.
use Rattle.std.specs.Prelude.{ℕ, ◌*◌, ◌≡◌, Bool, true, cond, List, [], ◌∷◌, ◌++◌}
use Rattle.word.specs.Field.{field, kind_of}
use Rattle.word.specs.Reserved.{reserved_zero}
use Rattle.plan.specs.Plan.{Plan}
use Rattle.operation.specs.Store.{Store, Update, apply_update}
use Rattle.execution.specs.Run.{Reply, run}
use Rattle.frame.specs.Frame.{placed, of_kind}
use Rattle.queue.specs.Queue.{queue_size}
use Rattle.queue.specs.declared.record.Request.{Request}
use Rattle.desk.specs.Queueing.{operation_of}

-- the store behind the runs
unfoldable pub run_all : Plan → List Request → Store → Store
run_all p [] s = s
run_all p (r ∷ rs) s = run_all p rs (apply_update (run p (operation_of r) s).update s)

-- "one update for each, empty or not"
unfoldable pub updates_of : Plan → List Request → Store → List Update
updates_of p [] s = []
updates_of p (r ∷ rs) s = (run p (operation_of r) s).update ∷ updates_of p rs (apply_update (run p (operation_of r) s).update s)

-- a client's word, and the reply to its request
pub record Answered : Type 0 where
  pub client : ℕ
  pub reply : Reply

abbrev pub answered : ℕ → Reply → Answered
answered client reply = record { client = client; reply = reply }

unfoldable pub replies_of : Plan → List Request → Store → List Answered
replies_of p [] s = []
replies_of p (r ∷ rs) s =
    answered r.client (run p (operation_of r) s).reply ∷ replies_of p rs
    (apply_update (run p (operation_of r) s).update s)

-- "A reply is then seven words"
abbrev pub reply_size : ℕ
reply_size = 7

-- as many as may wait are answered: "a visit's reply buffer at least 224"
abbrev pub replies_size : ℕ
replies_size = reply_size * queue_size

-- "kind 12 with bit 0 set if done, the client's word, the number"
abbrev pub reply_head : Bool → ℕ
reply_head done = of_kind 12 (placed 0 1 (cond done 1 0))

-- "Bits not named are zero", in a word of kind 12 too
abbrev pub ReplyHeadFormed : Type 0
ReplyHeadFormed = (done : Bool) → (kind_of (reply_head done) ≡ 12) × (reserved_zero (reply_head done) ≡ true)
    × (field 0 1 (reply_head done) ≡ cond done 1 0)

-- "A reply gains four words, the told numbers in order"
abbrev pub reply_words : Answered → List ℕ
reply_words a =
    reply_head a.reply.done ∷ a.client ∷ a.reply.number ∷ a.reply.told0 ∷ a.reply.told1 ∷ a.reply.told2 ∷ a.reply.told3 ∷ []

unfoldable pub replies_words : List Answered → List ℕ
replies_words [] = []
replies_words (a ∷ rs) = reply_words a ++ replies_words rs
