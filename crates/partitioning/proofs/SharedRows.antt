-- The rows that two desks or more touch, in the plan that a filling leaves: the sets of the code hold just them, and the code's test of a
-- step is the test of the cost.
-- Assumes nothing.
use mathlib.Core.Path.{◌≡◌, refl, ◌∙◌, sym, ap, ap₂, subst}
use mathlib.Core.Bool.{Bool, true, false, not, ◌&&◌, cond}
use mathlib.Core.List.{List}
use Prim.Native.Nat.{ℕ, ◌+◌, ◌*◌, ◌/◌, ◌%◌, ◌^◌, ◌-◌, ◌≤◌, ◌<◌}
use native.Mathlib.Nat.{mod-lt}
use native.Mathlib.Omega.{arith}
use lib.Bits.{bit_and, bit_or}
use lib.Count.{ones}
use lib.Dec.{ltb, leb, eqb}
use lib.ListN.{get_or}
use borrow.Author.Tests.{eq-eqb, ne_eqb, eqb-true, leb-true, leb-false}
use Rattle.std.specs.List.{list_all}
use Rattle.lists.specs.Lists.{any_below}
use Rattle.std.proofs.lemmas.Bool.{and_from}
use Rattle.lists.proofs.Laws.{and_fst, and_snd, bool_ext, by_same, get_or_tabulate}
use Rattle.lists.proofs.Laws.{any_below_number, number_any_below, any_below_none}
use Rattle.word.specs.Field.{kind_of, table_field, column_field}
use Rattle.plan.specs.Plan.{Step, Plan}
use Rattle.plan.specs.Decode.{step_of, row_of, transactions_of}
use Rattle.plan.specs.Admission.{step_formed, well_formed, decided}
use Rattle.plan.proofs.Words.{step_kind_low}
use Rattle.operation.specs.Operation.{cell_number}
use Rattle.operation.specs.Store.{store_size}
use Rattle.operation.proofs.StepKinds.{step_reads, step_writes_lem, step_above_4}
use Rattle.operation.proofs.CellNumbers.{cell_number_low, cell_parts, parts_cell}
use Rattle.conflict.specs.Mask.{mask_of}
use Rattle.conflict.specs.Touch.{transactions_touch, desk_mask}
use Rattle.conflict.specs.Written.{row_given, cell_given, step_writes}
use Rattle.conflict.proofs.Masks.{mask_ext, mask_same, mask_none, mask_or, mask_and}
use Rattle.partitioning.specs.Cost.{shared, writes_shared}
use Rattle.partitioning.specs.Touched.{table_column, rows_of}
use Rattle.partitioning.specs.Shared.{rows_if_many, rows_off_desk0, shared_in, shared_rows, word_shares}
use Rattle.partitioning.proofs.RowSets.{mask_empty, all_rows, rows_mask_lem}
use Rattle.partitioning.proofs.RowsPut.{closed_puts, Holds}
use Rattle.partitioning.proofs.TouchedRows.{InTableColumn, column_parts, transactions_touched}
use Rattle.partitioning.proofs.DeskCounts.{several_by, several_desks}

-- ---- a table column

-- the cell in row r of table column a
abbrev cell_in : ℕ → ℕ → ℕ
cell_in a r = cell_number (a / 4) r (a % 4)

cell_in_lem : (a r : ℕ) → a < 32 → r < 32 → InTableColumn a r (cell_in a r)
cell_in_lem a r h l = record { low = h; table = omega arith; column = omega arith; row = omega arith }

column_split : (a t k : ℕ) → a ≡ t * 4 + k → k < 4 → (a / 4 ≡ t) × (a % 4 ≡ k)
column_split a t k e h = (omega arith, omega arith)

-- of the table column of a step
module _ (w : ℕ) where
  cell_of_step : (r : ℕ) → cell_in (table_column w) r ≡ cell_number (table_field w) r (column_field w)
  cell_of_step r =
      let s = column_split (table_column w) (table_field w) (column_field w) (column_parts w) (omega arith) in
      ap₂ (λ (t k : ℕ). cell_number t r k) s.0 s.1

  step_parts : (r : ℕ) → r < 32 → (cell_in (table_column w) r / 128 ≡ table_field w) × (cell_in (table_column w) r % 4 ≡ column_field w)
      × (cell_in (table_column w) r / 4 % 32 ≡ r) × (cell_in (table_column w) r < store_size)
  step_parts r h =
      let p = cell_parts (table_field w) r (column_field w) h (omega arith) in
      subst (λ (c : ℕ). (c / 128 ≡ table_field w) × (c % 4 ≡ column_field w) × (c / 4 % 32 ≡ r) × (c < store_size)) (sym (cell_of_step r))
      (p.0, p.1, p.2, cell_number_low (table_field w) r (column_field w) (omega arith) h (omega arith))

  parts_step : (c : ℕ) → c / 128 ≡ table_field w → c % 4 ≡ column_field w → c ≡ cell_in (table_column w) (c / 4 % 32)
  parts_step c t k = parts_cell c (table_field w) (c / 4 % 32) (column_field w) t k refl ∙ sym (cell_of_step (c / 4 % 32))

many_mask : (n : ℕ) → rows_if_many n ≡ mask_of 32 (λ r. not (eqb n 1))
many_mask n = go (eqb n 1)
  where
    go : (b : Bool) → cond b 0 (2 ^ 32 - 1) ≡ mask_of 32 (λ r. not b)
    go true = sym (mask_none 32)
    go false = all_rows

module _ (p : Plan) (ws : List ℕ) (m q : ℕ) (few : p.desks ≤ 8) (some_desk : 1 ≤ p.desks)
    (is : p.transactions ≡ transactions_of m ws) (form : well_formed m ws ≡ true)
    (all : list_all decided (transactions_of m ws) ≡ true) where
  -- a cell is shared as the sets have its row
  shared_by : (a r c : ℕ) → InTableColumn a r c
      → shared p c ≡ several_by p.desks (r % p.desks) (closed_puts a r q ws) (closed_puts (32 + a) r q ws) (closed_puts (64 + a) r q ws)
  unfolding desk_mask
  shared_by a r c i =
      ap (λ (x : ℕ). ltb 1 (ones x)) (mask_ext p.desks (transactions_touch p.desks p.transactions c) _
      (λ d. ap (λ ts. transactions_touch p.desks ts c d) is ∙ transactions_touched p.desks r a c d i m ws q form all))
      ∙ several_desks p.desks (r % p.desks) (closed_puts a r q ws) (closed_puts (32 + a) r q ws) (closed_puts (64 + a) r q ws) few
      (mod-lt r some_desk)

  module _ (t : List ℕ) (h : Holds t (λ k r. closed_puts k r q ws)) where
    shared_column : (a : ℕ) → a < 32 → shared_in p.desks t a ≡ mask_of 32 (λ r. shared p (cell_in a r))
    shared_column a l =
        ap₂ bit_or
        (ap₂ bit_and (h.sets a (omega arith)) (many_mask p.desks) ∙ mask_and 32 _ _)
        (ap (λ (x : ℕ). bit_and x (rows_off_desk0 p.desks))
        (ap₂ bit_and (h.sets (32 + a) (omega arith)) (h.sets (64 + a) (omega arith)) ∙ mask_and 32 _ _) ∙ mask_and 32 _ _)
        ∙ mask_or 32 _ _ ∙ mask_same 32 _ _ (λ r k. sym (shared_by a r (cell_in a r) (cell_in_lem a r l k)))

    abbrev sets : List ℕ
    sets = shared_rows p.desks t

    -- a write step's word, by the rows of its table column
    word_rows : (w : ℕ) → not (eqb (bit_and (get_or sets (table_column w) 0) (rows_of w)) 0)
        ≡ any_below 32 (λ r. shared p (cell_in (table_column w) r) && row_given (row_of w) r)
    word_rows w =
        let l : table_column w < 32 = omega arith in
        ap (λ (x : ℕ). not (eqb x 0)) (ap₂ bit_and (get_or_tabulate 32 (shared_in p.desks t) (table_column w) 0 l ∙ shared_column
        (table_column w) l)
        (rows_mask_lem w) ∙ mask_and 32 _ _)
        ∙ mask_empty 32 _

    -- ---- the step in a word

    -- the shared cells of a write step are those of its table column's rows
    rows_cells : (w : ℕ) → any_below 32 (λ r. shared p (cell_in (table_column w) r) && row_given (row_of w) r)
        ≡ any_below store_size (λ c. cell_given (table_field w) (column_field w) (row_of w) c && shared p c)
    unfolding cell_given
    rows_cells w =
        let f : ℕ → Bool = λ c. cell_given (table_field w) (column_field w) (row_of w) c && shared p c in
        let g : ℕ → Bool = λ r. shared p (cell_in (table_column w) r) && row_given (row_of w) r in
        bool_ext _ _
        (λ e. let i = any_below_number 32 g e in
        let c = cell_in (table_column w) i.0 in
        let b = step_parts w i.0 i.1 in
        number_any_below store_size f c b.3
        (rw (eq-eqb (c / 128) (table_field w) b.0, eq-eqb (c % 4) (column_field w) b.1, b.2)
        (and_from _ _ (and_snd (shared p c) _ i.2) (and_fst (shared p c) _ i.2))))
        (λ e. let i = any_below_number store_size f e in
        let c = i.0 in
        let given = and_fst (cell_given (table_field w) (column_field w) (row_of w) c) _ i.2 in
        let behind = and_snd (eqb (c / 128) (table_field w)) _ given in
        let back : c ≡ cell_in (table_column w) (c / 4 % 32) = parts_step w c (eqb-true (c / 128) (table_field w) (and_fst _ _ given))
        (eqb-true (c % 4) (column_field w) (and_fst _ _ behind)) in
        number_any_below 32 g (c / 4 % 32) (omega arith)
        (and_from _ _ (subst (λ (x : ℕ). shared p x ≡ true) back (and_snd (cell_given (table_field w) (column_field w) (row_of w) c) _ i.2))
        (and_snd (eqb (c % 4) (column_field w)) _ behind)))

    -- the code's test is the one of the cost
    pub word_shares_lem : (w : ℕ) → step_formed w ≡ true → word_shares sets w ≡ writes_shared p (step_of w)
    unfolding writes_shared step_writes
    word_shares_lem w f =
        by_same (kind_of w) 4
        (λ e. rw (eq-eqb (kind_of w) 4 e, step_writes_lem w e) (word_rows w ∙ rows_cells w))
        (λ e. rw (ne_eqb (kind_of w) 4 e) (sym (go (leb (kind_of w) 4) refl e)))
      where
        go : (b : Bool) → leb (kind_of w) 4 ≡ b → (kind_of w ≡ 4 → ⊥)
            → any_below store_size (λ c. step_writes (step_of w) c && shared p c) ≡ false
        go true h e =
            rw (step_reads w (omega (arith, e, leb-true (kind_of w) 4 h, step_kind_low w f))) (any_below_none store_size)
        go false h e =
            step_above_4 (λ (s : Step). any_below store_size (λ c. step_writes s c && shared p c) ≡ false) w
            (leb-false (kind_of w) 4 h) (λ g v. any_below_none store_size) (any_below_none store_size)
