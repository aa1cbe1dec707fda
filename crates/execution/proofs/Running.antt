-- A run along the steps of an operation: what is still to run gives the whole outcome.
-- Assumes nothing.
use Rattle.std.proofs.Common.{ℕ, ◌+◌, ◌≤◌, ◌<◌, ◌≡◌, ap, refl, true, List, [], ◌∷◌, ◌++◌, length, get_or, map, arith}
use lib.ListN.{length-map, length-append}
use Rattle.lists.proofs.Laws.{and_snd}
use Rattle.plan.specs.Plan.{Source, Access, reads, writes, Action, Step, cell, operand, tells, Transaction}
use Rattle.plan.specs.Decode.{step_of}
use Rattle.plan.specs.Admission.{tell_count, most_tells}
use Rattle.plan.specs.Form.{IsTransaction}
use Rattle.plan.proofs.Words.{transaction_steps}
use Rattle.operation.specs.Operation.{value_of, cell_number, cells_named}
use Rattle.operation.specs.Admission.{parameters_pass, unused_zero}
use Rattle.operation.specs.Named.{AllInStore}
use Rattle.operation.specs.Store.{Store, Update, store_size, apply_update}
use Rattle.operation.proofs.CellSteps.{cells_in_store, next_in_store}
use Rattle.execution.specs.Run.{Outcome, finished, declined, continues, stops, act, run_from}
use Rattle.execution.proofs.Updates.{apply_one_more}

-- with these steps to come, behind this accumulator, these told numbers and this update
pub record Running (ps : List ℕ) (outcome : Outcome) (store : Store) (ss : List Step) (x : ℕ) (ts : List ℕ) (u : Update) : Type 0 where
  pub rest : run_from ps ss (apply_update u store) x ts u ≡ outcome
  pub writes_few : length u + length ss ≤ 12
  pub tells_few : length ts + tell_count ss ≤ most_tells
  pub reads_low : AllInStore (cells_named reads ps ss)
  pub writes_low : AllInStore (cells_named writes ps ss)

module _ {ps : List ℕ} {outcome : Outcome} {store : Store} where
  pub running_done : {x : ℕ} {ts : List ℕ} {u : Update} (left : List Step) → left ≡ [] → Running ps outcome store left x ts u
      → finished x ts u ≡ outcome
  unfolding run_from
  running_done left e q = rw e at q.rest

  module _ {ss left : List Step} {x : ℕ} {ts : List ℕ} {u : Update} (q : Running ps outcome store left x ts u) where
    -- ---- a step that names a cell

    pub running_room : (st : Step) → left ≡ st ∷ ss → length u < 12
    running_room st e = omega (arith, q.writes_few, ap length e)

    module _ {t k : ℕ} {r : Source} where
      pub running_low : (a : Access) → left ≡ cell a t k r ∷ ss → cell_number t (value_of ps r) k < store_size
      running_low reads e = (next_in_store reads ps (cell reads t k r) ss left left refl e q.reads_low).0
      running_low writes e = (next_in_store writes ps (cell writes t k r) ss left left refl e q.writes_low).0

      pub running_read : (c next : ℕ) → left ≡ cell reads t k r ∷ ss → c ≡ cell_number t (value_of ps r) k
          → next ≡ get_or (apply_update u store) c 0 → Running ps outcome store ss next ts u
      unfolding run_from tell_count cells_named
      running_read c next e i n =
          record {
            rest = rw (n, i) (rw e at q.rest);
            writes_few = omega (arith, q.writes_few, ap length e);
            tells_few = omega (arith, q.tells_few, ap tell_count e);
            reads_low = (next_in_store reads ps (cell reads t k r) ss left left refl e q.reads_low).1;
            writes_low = rw e at q.writes_low;
          }

      pub running_write : (c : ℕ) (v : Update) → left ≡ cell writes t k r ∷ ss → c ≡ cell_number t (value_of ps r) k
          → v ≡ u ++ (c, x) ∷ [] → Running ps outcome store ss x ts v
      unfolding run_from tell_count cells_named
      running_write c v e i n =
          record {
            rest = rw (n, apply_one_more u c x store, i) (rw e at q.rest);
            writes_few = omega (arith, q.writes_few, ap length e, ap length n, length-append u ((c, x) ∷ []));
            tells_few = omega (arith, q.tells_few, ap tell_count e);
            reads_low = rw e at q.reads_low;
            writes_low = (next_in_store writes ps (cell writes t k r) ss left left refl e q.writes_low).1;
          }

    -- ---- a step that tells

    pub running_tell_room : left ≡ tells ∷ ss → length ts < most_tells
    unfolding tell_count
    running_tell_room e = omega (arith, q.tells_few, ap tell_count e)

    pub running_tell : (vs : List ℕ) → left ≡ tells ∷ ss → vs ≡ ts ++ x ∷ [] → Running ps outcome store ss x vs u
    unfolding run_from tell_count cells_named
    running_tell vs e n =
        record {
          rest = rw n (rw e at q.rest);
          writes_few = omega (arith, q.writes_few, ap length e);
          tells_few = omega (arith, q.tells_few, ap tell_count e, ap length n, length-append ts (x ∷ []));
          reads_low = rw e at q.reads_low;
          writes_low = rw e at q.writes_low;
        }

    -- ---- a step with an operand

    module _ {f : Action} {o : Source} (v : ℕ) (e : left ≡ operand f o ∷ ss) (i : v ≡ value_of ps o) where
      pub running_act : (next : ℕ) → continues next ≡ act f x v → Running ps outcome store ss next ts u
      unfolding run_from tell_count cells_named
      running_act next a =
          record {
            rest = rw (← i, ← a) at (rw e at q.rest);
            writes_few = omega (arith, q.writes_few, ap length e);
            tells_few = omega (arith, q.tells_few, ap tell_count e);
            reads_low = rw e at q.reads_low;
            writes_low = rw e at q.writes_low;
          }

      pub running_stop : stops ≡ act f x v → declined x ts ≡ outcome
      unfolding run_from
      running_stop a = rw (← i, ← a) at (rw e at q.rest)

-- before the first step of a transaction
pub running_start : {ps ws : List ℕ} {w : ℕ} (t : Transaction) {outcome : Outcome} {store : Store} {ss : List Step} → IsTransaction w ws
    → t.steps ≡ map step_of ws → parameters_pass t ps ≡ true → ss ≡ t.steps → run_from ps t.steps store 0 [] [] ≡ outcome
    → Running ps outcome store ss 0 [] []
unfolding parameters_pass apply_update
running_start {ps = ps} {ws = ws} {w = w} t f s p e run =
    let rows = rw s at (and_snd (unused_zero t.params ps) _ p) in
    rw (e, s)
    (record {
      rest = rw s at run;
      writes_few = omega (arith, length-map ws step_of, f.count, transaction_steps w f.form);
      tells_few = omega (arith, f.tells_few);
      reads_low = cells_in_store reads ps ws rows;
      writes_low = cells_in_store writes ps ws rows;
    })
