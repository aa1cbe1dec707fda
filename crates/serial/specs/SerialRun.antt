-- "The serial run is reckoned from the plan, the starting books and the list and, of the answers, only from whether each was a refusal."
use Rattle.std.specs.Prelude.{ℕ, suc, Bool, true, false, cond, List, [], ◌∷◌, ◌++◌, length, eqb}
use Rattle.lists.specs.Lists.{assign}
use Rattle.serial.specs.Store.{Store}
use Rattle.serial.specs.Desk.{Request, Call, request, visit}
use Rattle.serial.specs.System.{System}
use Rattle.serial.specs.Step.{Route, immediate, enqueue, redirect, route, run_one}
use Rattle.serial.specs.Order.{Finished, global_run, immediate_run, place, sort_onto}

-- "a line of requests and a count g for each desk, a list of globals": queues, heard and globals. Besides: the desk of the latest
-- accepted visit, the operations finished in order of running, and how many calls there were.
pub record Serial (Op : Type 0) : Type 0 where
  pub queues : ℕ → List (Request Op)
  pub heard : ℕ → ℕ
  pub globals : List (Request Op)
  pub latest : ℕ
  pub finished : List (Finished Op)
  pub calls : ℕ

module _ (S : System) where
  open S use {n, Op, Extra, Reply, reply, join}

  -- "Lines and list begin empty, each g at 0." The latest desk is "desk 0 before any".
  abbrev pub new_serial : Serial Op
  new_serial = record { queues = λ (p : ℕ). []; heard = λ (p : ℕ). 0; globals = []; latest = 0; finished = []; calls = 0 }

  -- "Refused call: nothing changes."
  abbrev pub note_nothing : Serial Op → Serial Op
  note_nothing s =
      record {
        queues = s.queues;
        heard = s.heard;
        globals = s.globals;
        latest = s.latest;
        finished = s.finished;
        calls = suc s.calls;
      }

  -- "finished at once ..; the desk called and that desk's g are noted with it. A global one at its own desk joins that desk's line
  -- .. Any other changes nothing."
  abbrev pub note_request : Route → Serial Op → ℕ → Request Op → Serial Op
  note_request immediate s p r =
      record {
        queues = s.queues;
        heard = s.heard;
        globals = s.globals;
        latest = s.latest;
        finished = s.finished ++ (record { slot = immediate_run (s.heard p) p; by = s.calls; request = r } ∷ []);
        calls = suc s.calls;
      }
  note_request enqueue s p r =
      record {
        queues = assign p (join (s.queues p) r) s.queues;
        heard = s.heard;
        globals = s.globals;
        latest = s.latest;
        finished = s.finished;
        calls = suc s.calls;
      }
  note_request redirect s p r = note_nothing s

  -- the requests of a queue, finished by call i as the globals behind the k-th, first to last
  abbrev pub ranked : ℕ → ℕ → List (Request Op) → List (Finished Op)
  ranked i k [] = []
  ranked i k (r ∷ rs) = record { slot = global_run (suc k); by = i; request = r } ∷ ranked i (suc k) rs

  -- "its desk's line is finished, first to last, and goes to the end of the list of globals. The line is then empty, and this desk's
  -- g is the length of the list."
  abbrev pub note_visit : Serial Op → ℕ → Serial Op
  note_visit s p =
      record {
        queues = assign p [] s.queues;
        heard = assign p (length (s.globals ++ s.queues p)) s.heard;
        globals = s.globals ++ s.queues p;
        latest = p;
        finished = s.finished ++ ranked s.calls (length s.globals) (s.queues p);
        calls = suc s.calls;
      }

  -- one call, with whether it was refused
  abbrev pub note : Bool → Serial Op → Call Op Extra → Serial Op
  note true s c = note_nothing s
  note false s (request p r x) = note_request (route S p r.op) s p r
  note false s (visit p f x) = note_visit s p

  abbrev pub note_all : Serial Op → List (Call Op Extra) → List Bool → Serial Op
  note_all s [] rs = s
  note_all s (c ∷ cs) [] = s
  note_all s (c ∷ cs) (r ∷ rs) = note_all (note r s c) cs rs

  abbrev pub serial : List (Call Op Extra) → List Bool → Serial Op
  serial cs rs = note_all new_serial cs rs

  -- "the finished operations, two equal requests being two, are put in serial order"
  abbrev pub order : Serial Op → List (Finished Op)
  order s = sort_onto (place n) [] s.finished

  -- "and each runs on the book as the one before left it; what the book holds at last are the cells' serial values"
  abbrev pub store_after : List (Finished Op) → Store → Store
  store_after [] b = b
  store_after (e ∷ es) b = store_after es (run_one S e.request.op b)

  -- the replies to what call i finished, in serial order and with their clients' words
  abbrev pub due : ℕ → List (Finished Op) → Store → List (ℕ × Reply)
  due i [] b = []
  due i (e ∷ es) b =
      cond (eqb e.by i) ((e.request.client, reply e.request.op b) ∷ due i es (run_one S e.request.op b))
      (due i es (run_one S e.request.op b))
