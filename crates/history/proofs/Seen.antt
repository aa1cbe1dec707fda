-- The engine's definitions through the eyes of the protocol: frames, updates, replies, and the runs of waiting requests.
-- Assumes nothing.
use Prim.Native.Nat.{ℕ}
use mathlib.Core.Path.{◌≡◌, refl, sym, ◌∙◌, ap, ap₂}
use mathlib.Core.Bool.{Bool, true, false, cond}
use mathlib.Core.List.{List, [], ◌∷◌, map}
use lib.Dec.{eqb}
use Rattle.std.specs.List.{AllByRecursion}
use Rattle.plan.specs.Decode.{plan_of}
use Rattle.operation.specs.Operation.{Operation}
use Rattle.operation.specs.Admission.{IsOperation}
use Rattle.operation.specs.Store.{Store, Update, apply_update}
use Rattle.execution.specs.Run.{Reply, Outcome, run}
use Rattle.conflict.specs.Class.{Class}
use Rattle.frame.specs.Frame.{SentUpdate, sent}
use Rattle.frame.specs.Admission.{frame_visit, frame_updates}
use Rattle.queue.specs.declared.record.Request.{Request}
use Rattle.desk.specs.Queueing.{operation_of}
use Rattle.token.specs.Forward.{foreign, apply_all}
use Rattle.visits.specs.Waiting.{Answered, run_all, updates_of, replies_of}
use Rattle.serial.specs.System.{System}
use Rattle.serial.specs.Store as store
use Rattle.serial.specs.Frame as frame
use Rattle.serial.specs.Desk as desk
use Rattle.serial.specs.Step as step
use Rattle.history.proofs.Transactions.{apply_agrees}
use Rattle.history.proofs.Operations.{Runs, decided_of_is}
use Rattle.history.proofs.Protocol.{Sizes, ran, system}

abbrev pub request_seen : Request → desk.Request Operation
request_seen r = record { client = r.client; op = operation_of r }

abbrev pub update_seen : SentUpdate → ℕ × Update
update_seen u = (u.desk, u.writes)

abbrev pub frame_seen : List ℕ → frame.Frame
frame_seen ws = record { number = frame_visit ws; updates = map update_seen (frame_updates ws) }

abbrev pub answered_seen : Answered → ℕ × Reply
answered_seen a = (a.client, a.reply)

-- ---- updates

kept_seen : (b : Bool) (u : SentUpdate) (us : List SentUpdate) →
    cond b (map update_seen us) (update_seen u ∷ map update_seen us) ≡ map update_seen (cond b us (u ∷ us))
kept_seen true u us = refl
kept_seen false u us = refl

pub foreign_seen : (p : ℕ) (us : List SentUpdate) → frame.foreign p (map update_seen us) ≡ map update_seen (foreign p us)
unfolding foreign
foreign_seen p [] = refl
foreign_seen p (u ∷ us) = rw (foreign_seen p us) (kept_seen (eqb u.desk p) u (foreign p us))

pub apply_seen : (us : List SentUpdate) (s : Store) → store.apply_all (frame.untag (map update_seen us)) s ≡ apply_all us s
unfolding apply_all
apply_seen [] s = refl
apply_seen (u ∷ us) s =
    ap (store.apply_all (frame.untag (map update_seen us))) (sym (apply_agrees u.writes s)) ∙ apply_seen us (apply_update u.writes s)

pub sent_seen : (p : ℕ) (us : List Update) → frame.tag p us ≡ map update_seen (map (sent p) us)
sent_seen p [] = refl
sent_seen p (u ∷ us) = ap (λ (l : List (ℕ × Update)). (p, u) ∷ l) (sent_seen p us)

-- ---- runs

module _ (ws : List ℕ) (class : Operation → Class) (sizes : Sizes) where
  -- the protocol of the plan
  abbrev pub S : System
  S = system ws class sizes

  pub ran_is : (o : Operation) (s : Store) → IsOperation (plan_of ws) o → ran ws class sizes o s ≡ run (plan_of ws) o s
  ran_is o s i = rw (decided_of_is (plan_of ws) o i) refl

  pub one_seen : (o : Operation) (s : Store) → IsOperation (plan_of ws) o →
      step.run_one S o s ≡ apply_update (run (plan_of ws) o s).update s
  one_seen o s i = rw (ran_is o s i) (sym (apply_agrees (run (plan_of ws) o s).update s))

  -- a queue's runs, one after another
  pub run_all_seen : (q : List Request) (s : Store) → AllByRecursion (Runs (plan_of ws)) q →
      step.run_all S (map request_seen q) s ≡ run_all (plan_of ws) q s
  unfolding run_all
  run_all_seen [] s k = refl
  run_all_seen (r ∷ q) s k =
      ap (step.run_all S (map request_seen q)) (one_seen (operation_of r) s k.0)
      ∙ run_all_seen q (apply_update (run (plan_of ws) (operation_of r) s).update s) k.1

  pub updates_seen : (q : List Request) (s : Store) → AllByRecursion (Runs (plan_of ws)) q →
      step.updates_of S (map request_seen q) s ≡ updates_of (plan_of ws) q s
  unfolding updates_of
  updates_seen [] s k = refl
  updates_seen (r ∷ q) s k =
      ap₂ (λ (u : Update) (us : List Update). u ∷ us) (ap (λ (m : Outcome). m.update) (ran_is (operation_of r) s k.0))
      (ap (step.updates_of S (map request_seen q)) (one_seen (operation_of r) s k.0)
      ∙ updates_seen q (apply_update (run (plan_of ws) (operation_of r) s).update s) k.1)

  pub replies_seen : (q : List Request) (s : Store) → AllByRecursion (Runs (plan_of ws)) q →
      step.replies_of S (map request_seen q) s ≡ map answered_seen (replies_of (plan_of ws) q s)
  unfolding replies_of
  replies_seen [] s k = refl
  replies_seen (r ∷ q) s k =
      ap₂ (λ (m : Outcome) (rs : List (ℕ × Reply)). (r.client, m.reply) ∷ rs) (ran_is (operation_of r) s k.0)
      (ap (step.replies_of S (map request_seen q)) (one_seen (operation_of r) s k.0)
      ∙ replies_seen q (apply_update (run (plan_of ws) (operation_of r) s).update s) k.1)
