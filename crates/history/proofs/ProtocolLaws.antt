-- The laws that `serial` asks of the protocol, from the classes over all operations and from the runs of a plan's operations.
-- Assumes nothing.
use Prim.Native.Nat.{ℕ}
use mathlib.Core.Path.{◌≡◌, refl, ap, subst}
use mathlib.Core.Logic.{inl, inr}
use mathlib.Core.Bool.{Bool, true, false, cond}
use mathlib.Core.List.{List, []}
use lib.Dec.{eqb, eqb→eq}
use Rattle.verdict.specs.Verdict.{accepted}
use Rattle.std.proofs.lemmas.Float.{T_from_true}
use Rattle.lists.proofs.Laws.{and_fst, T_true, by_same}
use Rattle.plan.specs.Decode.{plan_of}
use Rattle.plan.specs.Admission.{plan_verdict}
use Rattle.operation.specs.Operation.{Operation, transaction_of, desk_of, MayRead, MayWrite, MayTouch}
use Rattle.operation.specs.Admission.{IsOperation}
use Rattle.operation.specs.Store.{Store}
use Rattle.execution.specs.Run.{Outcome, declined, run}
use Rattle.execution.proofs.Runs.{reads_decide}
use Rattle.conflict.specs.Class.{Class, free, local, global}
use Rattle.conflict.proofs.MaskMeaning.{desk_low}
use Rattle.conflict.proofs.Touching.{some_desk}
use Rattle.desk.proofs.Priority.{join_member, member_join}
use Rattle.serial.specs.Store.{Same, Within}
use Rattle.serial.specs.System.{Laws, Touches}
use Rattle.serial.specs.System as protocol
use Rattle.serial.proofs.Stores.{Within_part}
use Rattle.history.proofs.Transactions.{run_update_writes}
use Rattle.history.specs.SerialRun.{Is, Classifies}
use Rattle.history.proofs.Operations.{is_operation, is_of_decided}
use Rattle.history.proofs.Protocol.{Sizes, class_seen, ran, urgent_seen, system}

seen_free : (k : Class) → class_seen k ≡ protocol.free → k ≡ free
seen_free free e = refl
seen_free local e = cc
seen_free global e = cc

seen_local : (k : Class) → class_seen k ≡ protocol.local → k ≡ local
seen_local free e = cc
seen_local local e = refl
seen_local global e = cc

module _ (ws : List ℕ) (accept : plan_verdict ws ≡ accepted) (class : Operation → Class) (right : Classifies (plan_of ws) class)
    (sizes : Sizes) where
  abbrev Reads : Operation → ℕ → Type 0
  Reads o c = IsOperation (plan_of ws) o × MayRead (plan_of ws) o c

  abbrev Writes : Operation → ℕ → Type 0
  Writes o c = IsOperation (plan_of ws) o × MayWrite (plan_of ws) o c

  -- ---- runs

  ran_reads : (o : Operation) (a b : Store) → Same (Reads o) a b → ran ws class sizes o a ≡ ran ws class sizes o b
  ran_reads o a b s = go (is_operation (plan_of ws) o) refl
    where
      go : (t : Bool) → is_operation (plan_of ws) o ≡ t →
          cond t (run (plan_of ws) o a) (declined 0 []) ≡ cond t (run (plan_of ws) o b) (declined 0 [])
      go true e =
          reads_decide (transaction_of (plan_of ws) o) o.params a b s.0 (λ c m. s.1 c (is_of_decided (plan_of ws) o e, m))
      go false e = refl

  ran_writes : (o : Operation) (s : Store) → Within (Writes o) (ran ws class sizes o s).update
  ran_writes o s = go (is_operation (plan_of ws) o) refl
    where
      go : (t : Bool) → is_operation (plan_of ws) o ≡ t → Within (Writes o) (cond t (run (plan_of ws) o s) (declined 0 [])).update
      go true e =
          Within_part (MayWrite (plan_of ws) o) (Writes o) (run (plan_of ws) o s).update (λ c m. (is_of_decided (plan_of ws) o e, m))
          (run_update_writes (plan_of ws) o s)
      go false e = tt

  -- ---- classes

  -- the operation, and its touch
  pub touch_of : (o : Operation) (c : ℕ) → Touches (system ws class sizes) o c → IsOperation (plan_of ws) o × MayTouch (plan_of ws) o c
  touch_of o c (inl r) = (r.0, inl r.1)
  touch_of o c (inr w) = (w.0, inr w.1)

  pub of_touch : (o : Operation) (c : ℕ) → IsOperation (plan_of ws) o → MayTouch (plan_of ws) o c → Touches (system ws class sizes) o c
  of_touch o c i (inl r) = inl (i, r)
  of_touch o c i (inr w) = inr (i, w)

  means : (o : Operation) (k : Class) → IsOperation (plan_of ws) o → class o ≡ k → Is (plan_of ws) o k
  means o k i e = subst (Is (plan_of ws) o) e (right o i)

  local_one_desk : (o : Operation) → class o ≡ local → (c : ℕ) → Writes o c → (o' : Operation)
      → IsOperation (plan_of ws) o' × MayTouch (plan_of ws) o' c → desk_of (plan_of ws) o' ≡ desk_of (plan_of ws) o
  local_one_desk o e c w o' t =
      by_same (desk_of (plan_of ws) o') (desk_of (plan_of ws) o) (λ q. q)
      (λ q. absurd ((means o local w.0 e).1 c w.1 o' t.0 q t.1))

  pub laws : Laws (system ws class sizes)
  laws =
      record {
        some_desk = some_desk ws accept;
        desk_below = λ o. desk_low (plan_of ws) o (some_desk ws accept);
        reply_reads = λ o a b s. ap (λ (r : Outcome). r.reply) (ran_reads o a b s);
        update_reads = λ o a b s. ap (λ (r : Outcome). r.update) (ran_reads o a b s);
        update_writes = ran_writes;
        free_writes = λ o e c w. (means o free w.0 (seen_free (class o) e)).0 c w.1;
        free_reads = λ o e c r o' w. (means o free r.0 (seen_free (class o) e)).1 c r.1 o' w.0 w.1;
        local_alone = λ o e c w o' t. local_one_desk o (seen_local (class o) e) c w o' (touch_of o' c t);
        join_keeps = member_join (urgent_seen ws class sizes);
        join_only = join_member (urgent_seen ws class sizes);
        awaited_only = λ d p f x t.
            eqb→eq f.number d.awaited (T_from_true _ (and_fst (eqb f.number d.awaited) _ (T_true _ t)));
      }
