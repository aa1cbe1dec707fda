-- The computed test of writing says just what the papers say: some operation of the plan may write the cell.
-- Assumes nothing.
use mathlib.Core.Path.{◌≡◌, refl}
use mathlib.Core.Bool.{Bool, true, false, cond, false≢true}
use mathlib.Core.List.{List, Memᴰ}
use Prim.Native.Nat.{ℕ, ◌/◌, ◌%◌, ◌≤◌, ◌<◌}
use lib.Dec.{ltb, eqb}
use borrow.Author.Tests.{eq-eqb, lt-ltb, eqb-true}
use Rattle.verdict.specs.Verdict.{accepted}
use Rattle.std.proofs.lemmas.Bool.{and_from}
use Rattle.std.proofs.lemmas.List.Folds.{list_any_at}
use Rattle.lists.proofs.Laws.{and_fst, and_snd, all_member, member_any, any_member, any_index}
use Rattle.std.specs.List.{list_any}
use Rattle.plan.specs.Plan.{Source, param, fixed, reads, writes, Step, cell, operand, tells}
use Rattle.plan.specs.Plan.{Partitioning, by_param, unpartitioned, undecided, Transaction, no_transaction, transaction_at}
use Rattle.plan.specs.Decode.{plan_of}
use Rattle.plan.specs.Admission.{plan_verdict}
use Rattle.operation.specs.Operation.{transaction_of, value_of, cell_number}
use Rattle.operation.specs.Admission.{row_in_range}
use Rattle.operation.proofs.Admitted.{transaction_below, rows_passed}
use Rattle.operation.proofs.NamedCells.{names_of}
use Rattle.operation.proofs.CellNumbers.{cell_parts}
use Rattle.conflict.specs.Touch.{row_touched}
use Rattle.conflict.specs.Written.{row_given, cell_given, step_writes, written}
use Rattle.conflict.specs.Meaning.{Writer, WrittenMeans}
use Rattle.conflict.proofs.Touching.{CellStep, sound_at, made, value_low, some_desk, few_desks}

-- ---- a row that is given is given at some desk

row_desk : (n : ℕ) (q : Partitioning) (r : Source) (row : ℕ) → 1 ≤ n → row_given r row ≡ true → (d : ℕ) × (row_touched n q r row d ≡ true)
unfolding row_touched
row_desk n unpartitioned (fixed v) row h e = (0, and_from (eqb row v) _ e (eq-eqb 0 0 refl))
row_desk n unpartitioned (param i) row h e = (0, eq-eqb 0 0 refl)
row_desk n undecided (fixed v) row h e = (0, and_from (eqb row v) _ e (eq-eqb 0 0 refl))
row_desk n undecided (param i) row h e = (0, eq-eqb 0 0 refl)
row_desk n (by_param q) (fixed v) row h e = (0, and_from (eqb row v) _ e (lt-ltb 0 n h))
row_desk n (by_param q) (param i) row h e = go (eqb i q)
  where
    go : (b : Bool) → (d : ℕ) × (cond b (eqb d (row % n)) (ltb d n) ≡ true)
    go true = (row % n, eq-eqb (row % n) (row % n) refl)
    go false = (0, lt-ltb 0 n h)

-- ---- an operation for a written cell

pub step_of : (n : ℕ) (t : Transaction) (c : ℕ) (s : Step) → 1 ≤ n → Memᴰ s t.steps → step_writes s c ≡ true
    → (d : ℕ) × CellStep writes n t d c
unfolding step_writes cell_given
step_of n t c (cell reads tab col r) h m e = absurd (false≢true e)
step_of n t c (cell writes tab col r) h m e =
    let g = and_snd (eqb (c / 128) tab) _ e in
    let k = row_desk n t.part r (c / 4 % 32) h (and_snd (eqb (c % 4) col) _ g) in (
      k.0,
      record {
        table = tab;
        column = col;
        row = r;
        step = m;
        in_table = eqb-true (c / 128) tab (and_fst _ _ e);
        in_column = eqb-true (c % 4) col (and_fst _ _ g);
        in_row = k.1;
      },
    )
step_of n t c (operand f v) h m e = absurd (false≢true e)
step_of n t c tells h m e = absurd (false≢true e)

-- ---- an operation's cell is found

row_found : (ps : List ℕ) (r : Source) → row_given r (value_of ps r) ≡ true
row_found ps (param i) = refl
row_found ps (fixed v) = eq-eqb v v refl

pub cell_found : (t k : ℕ) (r : Source) (ps : List ℕ) (c : ℕ) → (k < 4) × (value_of ps r < 32) → c ≡ cell_number t (value_of ps r) k
    → step_writes (cell writes t k r) c ≡ true
unfolding step_writes cell_given
cell_found t k r ps c b s =
    let g = cell_parts t (value_of ps r) k b.1 b.0 in
    simp (s, g.0, g.1, g.2, eq-eqb t t refl, eq-eqb k k refl) (row_found ps r)

-- ---- the theorem

module _ (ws : List ℕ) (e : plan_verdict ws ≡ accepted) (c : ℕ) where
  pub written_gives : written (plan_of ws) c ≡ true → Writer (plan_of ws) c
  unfolding written
  written_gives h =
      let i = any_index (λ t. list_any (λ s. step_writes s c) t.steps) (plan_of ws).transactions no_transaction h in
      let t = transaction_at (plan_of ws) i.0 in
      let j = any_member (λ s. step_writes s c) t.steps i.2 in
      let m = step_of (plan_of ws).desks t c j.0 (some_desk ws e) j.1 j.2 in
      let a = made (plan_of ws) i.0 m.0 c (some_desk ws e) (few_desks ws e) i.1 writes (sound_at ws e i.0 i.1) m.1 in
      (a.op, a.is, a.names)

  pub gives_written : Writer (plan_of ws) c → written (plan_of ws) c ≡ true
  unfolding written
  gives_written w =
      let p = plan_of ws in
      let o = w.0 in
      let t = transaction_of p o in
      let l = transaction_below p o w.1 in
      let n = names_of writes o.params t.steps c w.2 in
      let v = value_low o.params writes n.table n.column n.row ((sound_at ws e o.transaction l).fits _ n.step)
      (all_member (row_in_range o.params) t.steps _ (rows_passed p o w.1) n.step) in
      list_any_at (λ t. list_any (λ s. step_writes s c) t.steps) p.transactions o.transaction no_transaction l
      (member_any (λ s. step_writes s c) (cell writes n.table n.column n.row) t.steps n.step
      (cell_found n.table n.column n.row o.params c v n.is))

pub written_means : WrittenMeans
written_means ws e c = (written_gives ws e c, gives_written ws e c)
