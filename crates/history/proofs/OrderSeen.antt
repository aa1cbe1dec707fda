-- The serial order of specs/Order is the protocol's, and so are the serial store and the replies due, where all that ran were operations.
-- Assumes nothing.
use Prim.Native.Nat.{ℕ}
use mathlib.Core.Path.{◌≡◌, refl, ◌∙◌, ap, ap₂}
use mathlib.Core.Bool.{Bool, true, false, cond}
use mathlib.Core.List.{List, [], ◌∷◌, ◌++◌, map}
use lib.Dec.{eqb}
use Rattle.std.specs.List.{AllByRecursion}
use Rattle.plan.specs.Plan.{Plan}
use Rattle.plan.specs.Decode.{plan_of}
use Rattle.operation.specs.Operation.{Operation}
use Rattle.operation.specs.Store.{Store}
use Rattle.execution.specs.Run.{Reply, Outcome}
use Rattle.conflict.specs.Class.{Class}
use Rattle.desk.specs.Queueing.{operation_of}
use Rattle.visits.specs.Waiting.{Answered}
use Rattle.visits.specs.Running.{reply_to}
use Rattle.serial.specs.System.{System}
use Rattle.serial.specs.Order as order
use Rattle.serial.specs.SerialRun as run
use Rattle.serial.proofs.SerialOrder.{Ranged}
use Rattle.history.specs.Order.{Finished, before, insert, sort_onto}
use Rattle.history.specs.SerialRun.{ran_one, store_after, due}
use Rattle.history.proofs.Operations.{Runs}
use Rattle.history.proofs.Protocol.{Sizes, system}
use Rattle.history.proofs.Seen.{answered_seen, ran_is, one_seen}
use Rattle.history.proofs.SerialSeen.{slot_seen, finished_seen}
use Rattle.history.proofs.Places.{before_is}

-- ---- the order

-- what the serial run notes of an accepted call: an operation of the plan, and if it ran at once a desk of the plan
abbrev pub RanAs : Plan → Finished → Type 0
RanAs p e = Runs p e.request × Ranged p.desks (slot_seen e.slot)

abbrev pub RunsAll : Plan → List Finished → Type 0
RunsAll p es = AllByRecursion (RanAs p) es

-- what holds of all that are put in order holds of the order
module _ (P : Finished → Type 0) where
  all_at : (b : Bool) (e f : Finished) (fs : List Finished) → P e → P f → AllByRecursion P fs → AllByRecursion P (insert e fs) →
      AllByRecursion P (cond b (e ∷ f ∷ fs) (f ∷ insert e fs))
  all_at true e f fs h k l m = (h, (k, l))
  all_at false e f fs h k l m = (k, m)

  all_insert : (e : Finished) (fs : List Finished) → P e → AllByRecursion P fs → AllByRecursion P (insert e fs)
  all_insert e [] h k = (h, tt)
  all_insert e (f ∷ fs) h k = all_at (before e.slot f.slot) e f fs h k.0 k.1 (all_insert e fs h k.1)

  pub all_sorted : (es fs : List Finished) → AllByRecursion P es → AllByRecursion P fs → AllByRecursion P (sort_onto es fs)
  all_sorted es [] h k = h
  all_sorted es (e ∷ fs) h k = all_sorted (insert e es) fs (all_insert e es k.0 h) k.1

module _ (p : Plan) where
  abbrev n : ℕ
  n = p.desks

  insert_at : (b : Bool) (e f : Finished) (fs : List Finished) →
      map finished_seen (insert e fs) ≡ order.insert (order.place n) (finished_seen e) (map finished_seen fs) →
      map finished_seen (cond b (e ∷ f ∷ fs) (f ∷ insert e fs))
      ≡ cond b [] (finished_seen f ∷ order.upto (order.place n) (order.place n (finished_seen e)) (map finished_seen fs))
      ++ (finished_seen e ∷ cond b (finished_seen f ∷ map finished_seen fs)
      (order.beyond (order.place n) (order.place n (finished_seen e)) (map finished_seen fs)))
  insert_at true e f fs h = refl
  insert_at false e f fs h = ap (λ (l : List (order.Finished Operation)). finished_seen f ∷ l) h

  insert_seen : (e : Finished) (fs : List Finished) → RanAs p e → RunsAll p fs →
      map finished_seen (insert e fs) ≡ order.insert (order.place n) (finished_seen e) (map finished_seen fs)
  insert_seen e [] h k = refl
  insert_seen e (f ∷ fs) h k =
      rw (before_is n e.slot f.slot h.1 k.0.1) (insert_at (before e.slot f.slot) e f fs (insert_seen e fs h k.1))

  pub sort_seen : (es fs : List Finished) → RunsAll p es → RunsAll p fs →
      map finished_seen (sort_onto es fs) ≡ order.sort_onto (order.place n) (map finished_seen es) (map finished_seen fs)
  sort_seen es [] h k = refl
  sort_seen es (e ∷ fs) h k =
      sort_seen (insert e es) fs (all_insert (RanAs p) e es k.0 h) k.1
      ∙ ap (λ (l : List (order.Finished Operation)). order.sort_onto (order.place n) l (map finished_seen fs)) (insert_seen e es k.0 h)

-- ---- the runs

module _ (ws : List ℕ) (class : Operation → Class) (sizes : Sizes) where
  -- the protocol of the plan
  abbrev pub S : System
  S = system ws class sizes

  pub store_seen : (es : List Finished) (s : Store) → RunsAll (plan_of ws) es →
      run.store_after S (map finished_seen es) s ≡ store_after (plan_of ws) es s
  store_seen [] s k = refl
  store_seen (e ∷ es) s k =
      ap (run.store_after S (map finished_seen es)) (one_seen ws class sizes (operation_of e.request) s k.0.0)
      ∙ store_seen es (ran_one (plan_of ws) e.request s) k.1

  due_at : (b : Bool) (r : Answered) (rs : List Answered) →
      cond b (answered_seen r ∷ map answered_seen rs) (map answered_seen rs) ≡ map answered_seen (cond b (r ∷ rs) rs)
  due_at true r rs = refl
  due_at false r rs = refl

  pub due_seen : (i : ℕ) (es : List Finished) (s : Store) → RunsAll (plan_of ws) es →
      run.due S i (map finished_seen es) s ≡ map answered_seen (due (plan_of ws) i es s)
  due_seen i [] s k = refl
  due_seen i (e ∷ es) s k =
      ap₂ (λ (m : Outcome) (rs : List (ℕ × Reply)). cond (eqb e.by i) ((e.request.client, m.reply) ∷ rs) rs)
      (ran_is ws class sizes (operation_of e.request) s k.0.0)
      (ap (run.due S i (map finished_seen es)) (one_seen ws class sizes (operation_of e.request) s k.0.0)
      ∙ due_seen i es (ran_one (plan_of ws) e.request s) k.1)
      ∙ due_at (eqb e.by i) (reply_to (plan_of ws) e.request s) (due (plan_of ws) i es (ran_one (plan_of ws) e.request s))
