-- The computed test of touching says just what the papers say: some operation of that desk may access the cell.
-- Assumes nothing.
use mathlib.Core.Path.{◌≡◌, refl, ◌∙◌, sym, ap, subst}
use mathlib.Core.Bool.{Bool, true, false, cond, false≢true}
use mathlib.Core.List.{List, Memᴰ}
use Prim.Native.Nat.{ℕ, ◌/◌, ◌%◌, ◌≤◌, ◌<◌}
use native.Mathlib.Nat.{mod-lt}
use native.Mathlib.Omega.{arith}
use lib.Dec.{ltb, eqb}
use lib.ListN.{length, get_or}
use borrow.Author.Tests.{eq-eqb, lt-ltb, eqb-true, leb-true}
use Rattle.verdict.specs.Verdict.{accepted}
use Rattle.std.proofs.lemmas.List.Folds.{list_any_at}
use Rattle.lists.proofs.Laws.{and_fst, and_snd, all_index, all_member, member_any, any_member, any_index}
use Rattle.word.specs.Field.{head_transactions}
use Rattle.plan.specs.Plan.{Source, param, fixed, Access, Step, cell, operand, tells}
use Rattle.plan.specs.Plan.{Partitioning, by_param, unpartitioned, undecided, Transaction, Plan}
use Rattle.plan.specs.Plan.{no_transaction, transaction_at}
use Rattle.plan.specs.Decode.{plan_of, head_of}
use Rattle.plan.specs.Admission.{plan_verdict, parameters_exist, part_exists, step_exists, source_exists}
use Rattle.plan.specs.Place.{transaction_place}
use Rattle.plan.proofs.Accepted.{accepted_gives, all_named, transaction_count, desk_count_lem}
use Rattle.plan.proofs.Places.{stands_at_lem, transaction_is}
use Rattle.plan.proofs.Words.{transaction_params}
use Rattle.operation.specs.Operation.{Operation, operation, transaction_of, value_of, desk_by, desk_of, cell_number, cells_named}
use Rattle.operation.specs.Admission.{IsOperation, parameters_pass, unused_zero, row_in_range}
use Rattle.operation.proofs.Admitted.{transaction_below, parameters_passed, is_operation_lem}
use Rattle.operation.proofs.NamedCells.{names_of, of_names}
use Rattle.operation.proofs.CellNumbers.{cell_parts, parts_cell}
use Rattle.operation.proofs.Bounds.{FieldsFit, AllFit, transaction_fits}
use Rattle.conflict.specs.Touch.{row_touched, cell_touched, step_touches, steps_touch, transactions_touch}
use Rattle.conflict.proofs.Witness.{witness, witness_four, witness_low, witness_passes, desk_below, witness_row, witness_desk}

-- an operation of desk d names the cell by this access
pub record Accesses (a : Access) (p : Plan) (d c : ℕ) : Type 0 where
  pub op : Operation
  pub is : IsOperation p op
  pub desk : desk_of p op ≡ d
  pub names : Memᴰ c (cells_named a op.params (transaction_of p op).steps)

-- ---- what an accepted plan says of each of its transactions

pub record Sound (t : Transaction) : Type 0 where
  pub few : t.params ≤ 4
  pub fits : AllFit t.steps
  pub exist : parameters_exist t ≡ true

pub sound_at : (ws : List ℕ) → plan_verdict ws ≡ accepted → (k : ℕ) → k < length (plan_of ws).transactions
    → Sound (transaction_at (plan_of ws) k)
sound_at ws e k h =
    let l : k < head_transactions (head_of ws) = omega (arith, transaction_count ws e) in
    let s = stands_at_lem ws e k l in
    let i = transaction_is ws e k l in
    record {
      few = subst (λ (t : Transaction). t.params ≤ 4) (sym i) (transaction_params _ s.form);
      fits = subst (λ (t : Transaction). AllFit t.steps) (sym i) (transaction_fits ws (transaction_place ws k));
      exist = all_index parameters_exist (plan_of ws).transactions k no_transaction (all_named ws e) h;
    }

-- ---- an operation's cell is found by the test

row_found : (n : ℕ) (q : Partitioning) (r : Source) (ps : List ℕ) (d : ℕ) → 1 ≤ n → desk_by n q ps ≡ d
    → row_touched n q r (value_of ps r) d ≡ true
unfolding row_touched
row_found n (by_param q) (fixed v) ps d h e = simp (eq-eqb v v refl) (lt-ltb d n (subst (λ (x : ℕ). x < n) e (mod-lt (get_or ps q 0) h)))
row_found n (by_param q) (param i) ps d h e = go (eqb i q) refl
  where
    go : (b : Bool) → eqb i q ≡ b → cond (eqb i q) (eqb d (get_or ps i 0 % n)) (ltb d n) ≡ true
    go true s = simp s (eq-eqb d (get_or ps i 0 % n) (sym e ∙ ap (λ (j : ℕ). get_or ps j 0 % n) (sym (eqb-true i q s))))
    go false s = simp s (lt-ltb d n (subst (λ (x : ℕ). x < n) e (mod-lt (get_or ps q 0) h)))
row_found n unpartitioned (fixed v) ps d h e = simp (eq-eqb v v refl) (eq-eqb d 0 (sym e))
row_found n unpartitioned (param i) ps d h e = eq-eqb d 0 (sym e)
row_found n undecided (fixed v) ps d h e = simp (eq-eqb v v refl) (eq-eqb d 0 (sym e))
row_found n undecided (param i) ps d h e = eq-eqb d 0 (sym e)

pub value_low : (ps : List ℕ) (a : Access) (t k : ℕ) (r : Source) → FieldsFit (cell a t k r) → row_in_range ps (cell a t k r) ≡ true
    → (k < 4) × (value_of ps r < 32)
unfolding row_in_range
value_low ps a t k (param i) f e = let h = leb-true (get_or ps i 0) 31 e in (f.1, omega arith)
value_low ps a t k (fixed v) f e = (f.1, f.2)

cell_found : (n : ℕ) (q : Partitioning) (t k : ℕ) (r : Source) (ps : List ℕ) (d c : ℕ) → 1 ≤ n → (k < 4) × (value_of ps r < 32)
    → desk_by n q ps ≡ d → c ≡ cell_number t (value_of ps r) k → cell_touched n q t k r c d ≡ true
unfolding cell_touched
cell_found n q t k r ps d c h b e s =
    let g = cell_parts t (value_of ps r) k b.1 b.0 in
    simp (s, g.0, g.1, g.2, eq-eqb t t refl, eq-eqb k k refl) (row_found n q r ps d h e)

-- a transaction under parameters that pass: each cell that it names is found at its desk
pub names_found : (n : ℕ) (t : Transaction) (ps : List ℕ) (d : ℕ) → 1 ≤ n → AllFit t.steps → parameters_pass t ps ≡ true
    → desk_by n t.part ps ≡ d → (a : Access) (c : ℕ) → Memᴰ c (cells_named a ps t.steps)
    → steps_touch n t.part t.steps c d ≡ true
unfolding step_touches parameters_pass
names_found n t ps d h fits pass e a c m =
    let k = names_of a ps t.steps c m in
    let v = value_low ps a k.table k.column k.row (fits _ k.step)
    (all_member (row_in_range ps) t.steps _ (and_snd (unused_zero t.params ps) _ pass) k.step) in
    member_any (λ s. step_touches n t.part s c d) (cell a k.table k.column k.row) t.steps k.step
    (cell_found n t.part k.table k.column k.row ps d c h v e k.is)

-- ---- an operation is made for each cell that the test finds

pub record CellStep (a : Access) (n : ℕ) (t : Transaction) (d c : ℕ) : Type 0 where
  pub table : ℕ
  pub column : ℕ
  pub row : Source
  pub step : Memᴰ (cell a table column row) t.steps
  pub in_table : c / 128 ≡ table
  pub in_column : c % 4 ≡ column
  pub in_row : row_touched n t.part row (c / 4 % 32) d ≡ true

step_of : (n : ℕ) (t : Transaction) (d c : ℕ) (s : Step) → Memᴰ s t.steps → step_touches n t.part s c d ≡ true
    → (a : Access) × CellStep a n t d c
unfolding step_touches cell_touched
step_of n t d c (cell a tab col r) m e =
    let g = and_snd (eqb (c / 128) tab) _ e in (
      a,
      record {
        table = tab;
        column = col;
        row = r;
        step = m;
        in_table = eqb-true (c / 128) tab (and_fst _ _ e);
        in_column = eqb-true (c % 4) col (and_fst _ _ g);
        in_row = and_snd (eqb (c % 4) col) _ g;
      },
    )
step_of n t d c (operand f v) m e = absurd (false≢true e)
step_of n t d c tells m e = absurd (false≢true e)

source_exists_lem : (t : Transaction) (a : Access) (tab col : ℕ) (r : Source) → parameters_exist t ≡ true
    → Memᴰ (cell a tab col r) t.steps
    → source_exists t.params r ≡ true
unfolding parameters_exist step_exists
source_exists_lem t a tab col r e m =
    all_member (step_exists t.params) t.steps (cell a tab col r) (and_snd (part_exists t.params t.part) _ e) m

part_exists_lem : (t : Transaction) → parameters_exist t ≡ true → part_exists t.params t.part ≡ true
unfolding parameters_exist
part_exists_lem t e = and_fst (part_exists t.params t.part) _ e

module _ (p : Plan) (k d c : ℕ) (lo : 1 ≤ p.desks) (hi : p.desks ≤ 8) (below : k < length p.transactions) where
  pub made : (a : Access) → Sound (transaction_at p k) → CellStep a p.desks (transaction_at p k) d c → Accesses a p d c
  made a s m =
      let t = transaction_at p k in
      let l : d < 32 = omega (arith, desk_below p.desks t.part m.row (c / 4 % 32) d lo m.in_row) in
      let rn = source_exists_lem t a m.table m.column m.row s.exist m.step in
      let pn = part_exists_lem t s.exist in
      let ps = witness t.part m.row (c / 4 % 32) d in
      record {
        op = operation k ps;
        is = is_operation_lem p k ps (witness_four t.part m.row (c / 4 % 32) d)
            (λ i. omega (arith, witness_low t.part m.row (c / 4 % 32) d (omega arith) l i)) below
            (witness_passes t m.row (c / 4 % 32) d rn pn (omega arith) l);
        desk = witness_desk p.desks t.params t.part m.row (c / 4 % 32) d s.few pn lo m.in_row;
        names = subst (λ (x : ℕ). Memᴰ x (cells_named a ps t.steps))
            (sym (parts_cell c m.table (value_of ps m.row) m.column m.in_table m.in_column
            (sym (witness_row p.desks t.params t.part m.row (c / 4 % 32) d s.few rn m.in_row))))
            (of_names a ps t.steps m.table m.column m.row m.step);
      }

  -- it is one of transaction k
  pub made_transaction : (a : Access) (s : Sound (transaction_at p k)) (m : CellStep a p.desks (transaction_at p k) d c)
      → (made a s m).op.transaction ≡ k
  unfolding made
  made_transaction a s m = refl

-- ---- the theorem

-- whether an operation of desk d may access the cell, as the mask has it
abbrev pub touched : Plan → ℕ → ℕ → Bool
touched p c d = transactions_touch p.desks p.transactions c d

-- whether one of transaction k may
abbrev pub touched_by : Plan → ℕ → ℕ → ℕ → Bool
touched_by p k c d = steps_touch p.desks (transaction_at p k).part (transaction_at p k).steps c d

module _ (p : Plan) (c d : ℕ) where
  pub touched_some : touched p c d ≡ true → (k : ℕ) × (k < length p.transactions) × (touched_by p k c d ≡ true)
  touched_some = any_index (λ t. steps_touch p.desks t.part t.steps c d) p.transactions no_transaction

  some_touched : (k : ℕ) → k < length p.transactions → touched_by p k c d ≡ true → touched p c d ≡ true
  some_touched k = list_any_at (λ t. steps_touch p.desks t.part t.steps c d) p.transactions k no_transaction

module _ (ws : List ℕ) (e : plan_verdict ws ≡ accepted) where
  pub some_desk : 1 ≤ (plan_of ws).desks
  some_desk = omega (arith, desk_count_lem ws, (accepted_gives ws e).desks_low)

  pub few_desks : (plan_of ws).desks ≤ 8
  few_desks = omega (arith, desk_count_lem ws, (accepted_gives ws e).desks_high)

  pub few_transactions : length (plan_of ws).transactions ≤ 32
  few_transactions = omega (arith, transaction_count ws e, (accepted_gives ws e).transactions_high)

  module _ (d c : ℕ) where
    -- of one transaction
    pub touched_by_gives : (k : ℕ) → k < length (plan_of ws).transactions → touched_by (plan_of ws) k c d ≡ true
        → (a : Access) × (x : Accesses a (plan_of ws) d c) × (x.op.transaction ≡ k)
    touched_by_gives k below h =
        let t = transaction_at (plan_of ws) k in
        let j = any_member (λ s. step_touches (plan_of ws).desks t.part s c d) t.steps h in
        let m = step_of (plan_of ws).desks t d c j.0 j.1 j.2 in (
          m.0,
          made (plan_of ws) k d c some_desk few_desks below m.0 (sound_at ws e k below) m.1,
          made_transaction (plan_of ws) k d c some_desk few_desks below m.0 (sound_at ws e k below) m.1,
        )

    pub gives_touched_by : (k : Access) (x : Accesses k (plan_of ws) d c) → touched_by (plan_of ws) x.op.transaction c d ≡ true
    gives_touched_by k x =
        names_found (plan_of ws).desks (transaction_of (plan_of ws) x.op) x.op.params d some_desk
        (sound_at ws e x.op.transaction (transaction_below (plan_of ws) x.op x.is)).fits
        (parameters_passed (plan_of ws) x.op x.is) x.desk k c x.names

    -- of any
    pub touched_gives : touched (plan_of ws) c d ≡ true → (a : Access) × Accesses a (plan_of ws) d c
    touched_gives h =
        let i = touched_some (plan_of ws) c d h in
        let x = touched_by_gives i.0 i.1 i.2 in (x.0, x.1)

    pub gives_touched : (k : Access) → Accesses k (plan_of ws) d c → touched (plan_of ws) c d ≡ true
    gives_touched k x =
        some_touched (plan_of ws) c d x.op.transaction (transaction_below (plan_of ws) x.op x.is) (gives_touched_by k x)
