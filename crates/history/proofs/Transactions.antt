-- The laws asked of the operations hold of runs by steps: of the runs of a plan's operations.
-- Assumes nothing.
use Prim.Native.Nat.{ℕ}
use mathlib.Core.Path.{◌≡◌, refl, ap}
use mathlib.Core.List.{[], ◌∷◌, Memᴰ}
use lib.ListN.{set}
use Rattle.plan.specs.Plan.{Plan}
use Rattle.operation.specs.Operation.{Operation, transaction_of, MayRead, MayWrite}
use Rattle.execution.specs.Run.{Outcome, run}
use Rattle.operation.specs.Store as store
use Rattle.execution.proofs.Runs.{reads_decide, writes_within}
use Rattle.serial.specs.Store.{Store, Update, apply_update, Same, Within}

-- an update writes cells of P only, if each of its pairs does
within : (P : ℕ → Type 0) (u : Update) → ((w : ℕ × ℕ) → Memᴰ w u → P w.0) → Within P u
within P [] f = tt
within P (w ∷ u) f = (f w (Memᴰ.head refl), within P u (λ v m. f v (Memᴰ.tail m)))

-- applying an update is the same in both layers
pub apply_agrees : (u : Update) (s : Store) → store.apply_update u s ≡ apply_update u s
unfolding store.apply_update
apply_agrees [] s = refl
apply_agrees (w ∷ u) s = apply_agrees u (set s w.0 w.1)

module _ (p : Plan) (o : Operation) where
  module _ (a b : Store) (s : Same (MayRead p o) a b) where
    outcome_reads : run p o a ≡ run p o b
    outcome_reads = reads_decide (transaction_of p o) o.params a b s.0 s.1

    -- Laws' reply_reads
    pub run_reply_reads : (run p o a).reply ≡ (run p o b).reply
    run_reply_reads = ap (λ (r : Outcome). r.reply) outcome_reads

    -- Laws' update_reads
    pub run_update_reads : (run p o a).update ≡ (run p o b).update
    run_update_reads = ap (λ (r : Outcome). r.update) outcome_reads

  -- Laws' update_writes
  pub run_update_writes : (s : Store) → Within (MayWrite p o) (run p o s).update
  run_update_writes s = within (MayWrite p o) (run p o s).update (writes_within (transaction_of p o) o.params s)
