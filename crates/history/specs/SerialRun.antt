-- "The serial run is reckoned from the plan, the starting books and the list and, of the answers, only from whether each was a refusal."
use Rattle.std.specs.Prelude.{ℕ, suc, ◌≡◌, Bool, true, false, cond, List, [], ◌∷◌, ◌++◌, eqb, length}
use Rattle.verdict.specs.Verdict.{accepted}
use Rattle.lists.specs.Lists.{assign}
use Rattle.plan.specs.Plan.{Plan}
use Rattle.plan.specs.Decode.{plan_of}
use Rattle.plan.specs.Admission.{plan_verdict}
use Rattle.operation.specs.Operation.{Operation, desk_of}
use Rattle.operation.specs.Admission.{IsOperation}
use Rattle.operation.specs.Store.{Store, apply_update}
use Rattle.execution.specs.Run.{run}
use Rattle.conflict.specs.Class.{Class, free, local, global, Free, Local, Global, class_of}
use Rattle.queue.specs.declared.record.Request.{Request}
use Rattle.desk.specs.Queueing.{operation_of, is_urgent, join_queue}
use Rattle.requests.specs.Request.{record_of}
use Rattle.visits.specs.Waiting.{Answered}
use Rattle.visits.specs.Running.{reply_to}
use Rattle.history.specs.History.{Call, request, visit}
use Rattle.history.specs.Order.{Finished, global_run, immediate_run, sort_onto}

-- ---- "its operation, classed as above": the classes are the ones defined over all operations

abbrev pub Is : Plan → Operation → Class → Type 0
Is p o free = Free p o
Is p o local = Local p o
Is p o global = Global p o

-- each operation of the plan has the class that is named for it
abbrev pub Classifies : Plan → (Operation → Class) → Type 0
Classifies p class = (o : Operation) → IsOperation p o → Is p o (class o)

-- the class that the engine computes is such a one
abbrev pub ComputedClassifies : Type 0
ComputedClassifies = (plan : List ℕ) → plan_verdict plan ≡ accepted → Classifies (plan_of plan) (class_of (plan_of plan))

-- ---- the serial run

-- "a line of requests and a count g for each desk, a list of globals": queues, heard and globals. Besides: the desk of the latest
-- accepted visit, the requests finished in order of running, and how many calls there were.
pub record Serial : Type 0 where
  pub queues : ℕ → List Request
  pub heard : ℕ → ℕ
  pub globals : List Request
  pub latest : ℕ
  pub finished : List Finished
  pub calls : ℕ

-- "Lines and list begin empty, each g at 0." The latest desk is "desk 0 before any".
abbrev pub new_serial : Serial
new_serial = record { queues = λ (p : ℕ). []; heard = λ (p : ℕ). 0; globals = []; latest = 0; finished = []; calls = 0 }

-- "Refused call: nothing changes."
abbrev pub note_nothing : Serial → Serial
note_nothing s =
    record {
      queues = s.queues;
      heard = s.heard;
      globals = s.globals;
      latest = s.latest;
      finished = s.finished;
      calls = suc s.calls;
    }

-- "finished at once ..; the desk called and that desk's g are noted with it"
abbrev pub note_run : Serial → ℕ → Request → Serial
note_run s p r =
    record {
      queues = s.queues;
      heard = s.heard;
      globals = s.globals;
      latest = s.latest;
      finished = s.finished ++ (record { slot = immediate_run (s.heard p) p; by = s.calls; request = r } ∷ []);
      calls = suc s.calls;
    }

-- "A global one at its own desk joins that desk's line, in the order laid down for the row."
abbrev pub note_join : Plan → Serial → ℕ → Request → Serial
note_join p s d r =
    record {
      queues = assign d (join_queue (is_urgent p) (s.queues d) r) s.queues;
      heard = s.heard;
      globals = s.globals;
      latest = s.latest;
      finished = s.finished;
      calls = suc s.calls;
    }

-- "Accepted request: its operation .. is finished at once if it is free, or local and at its own desk ..  A global one at its own
-- desk joins that desk's line .. Any other changes nothing."
abbrev pub note_request : Plan → Class → Bool → Serial → ℕ → Request → Serial
note_request p free own s d r = note_run s d r
note_request p local true s d r = note_run s d r
note_request p local false s d r = note_nothing s
note_request p global true s d r = note_join p s d r
note_request p global false s d r = note_nothing s

-- the requests of a line, finished by call i as the globals behind the k-th, first to last
abbrev pub ranked : ℕ → ℕ → List Request → List Finished
ranked i k [] = []
ranked i k (r ∷ rs) = record { slot = global_run (suc k); by = i; request = r } ∷ ranked i (suc k) rs

-- "Accepted visit: its desk's line is finished, first to last, and goes to the end of the list of globals. The line is then empty,
-- and this desk's g is the length of the list."
abbrev pub note_visit : Serial → ℕ → Serial
note_visit s p =
    record {
      queues = assign p [] s.queues;
      heard = assign p (length (s.globals ++ s.queues p)) s.heard;
      globals = s.globals ++ s.queues p;
      latest = p;
      finished = s.finished ++ ranked s.calls (length s.globals) (s.queues p);
      calls = suc s.calls;
    }

module _ (p : Plan) (class : Operation → Class) where
  -- one call, with whether it was refused
  abbrev pub note : Bool → Serial → Call → Serial
  note true s c = note_nothing s
  note false s (request d client k ps) =
      note_request p (class (operation_of (record_of client k ps))) (eqb (desk_of p (operation_of (record_of client k ps))) d) s d
      (record_of client k ps)
  note false s (visit d frame out replies) = note_visit s d

  abbrev pub note_all : Serial → List Call → List Bool → Serial
  note_all s [] refusals = s
  note_all s (c ∷ cs) [] = s
  note_all s (c ∷ cs) (r ∷ refusals) = note_all (note r s c) cs refusals

  abbrev pub serial : List Call → List Bool → Serial
  serial cs refusals = note_all new_serial cs refusals

-- "the finished operations, two equal requests being two, are put in serial order"
abbrev pub order : Serial → List Finished
order s = sort_onto [] s.finished

module _ (p : Plan) where
  -- "and each runs on the book as the one before left it"
  abbrev pub ran_one : Request → Store → Store
  ran_one r s = apply_update (run p (operation_of r) s).update s

  -- "what the book holds at last are the cells' serial values"
  abbrev pub store_after : List Finished → Store → Store
  store_after [] s = s
  store_after (e ∷ es) s = store_after es (ran_one e.request s)

  -- the replies to what call i finished, in serial order and with their clients' words. "Serial replies are compared with their told
  -- numbers.": a reply is the whole of what a run answers
  abbrev pub due : ℕ → List Finished → Store → List Answered
  due i [] s = []
  due i (e ∷ es) s =
      cond (eqb e.by i) (reply_to p e.request s ∷ due i es (ran_one e.request s)) (due i es (ran_one e.request s))
