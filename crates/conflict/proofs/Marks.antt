-- One step's cells, joined row by row into the table.
-- Assumes nothing.
use mathlib.Core.Path.{◌≡◌, refl, ◌∙◌, sym, ap, ap₂}
use mathlib.Core.Bool.{Bool, true, false, ◌&&◌, and-false}
use mathlib.Core.List.{List}
use mathlib.Core.Logic.{⊎_elim}
use Prim.Native.Nat.{ℕ, ◌+◌, ◌/◌, ◌%◌, ◌≤◌, ◌<◌}
use native.Mathlib.Omega.{arith}
use lib.Bits.{bit_or, or_zero_r}
use lib.Dec.{ltb, eqb}
use lib.ListN.{length, get_or, set, length-set}
use lib.Seq.{get_or-set_same, get_or-set_other}
use borrow.Author.Tests.{eq-eqb, lt-ltb, le-ltb, le-leb, eqb-true, eqb-false}
use Rattle.std.proofs.lemmas.Bool.{cases_lt}
use Rattle.lists.proofs.Laws.{by_same}
use Rattle.word.specs.Field.{kind_of, table_field, column_field}
use Rattle.plan.specs.Plan.{Source, Access, Step, cell, Partitioning}
use Rattle.plan.specs.Step.{step_from}
use Rattle.plan.specs.declared.step.Access.{Access as DeclaredAccess}
use Rattle.plan.specs.declared.step.Source.{Source as DeclaredSource}
use Rattle.plan.specs.declared.step.Step as declared
use Rattle.plan.specs.declared.step.Step.TheVariants.{Cell, Operand, Tell}
use Rattle.plan.specs.Decode.{step_of, row_of}
use Rattle.operation.proofs.StepKinds.{step_above_4}
use Rattle.operation.specs.Operation.{cell_number}
use Rattle.operation.proofs.CellNumbers.{cell_number_low, cell_parts, parts_cell}
use Rattle.conflict.specs.Mask.{mask_of}
use Rattle.conflict.specs.Touch.{row_touched, cell_touched, step_touches, Joined}
use Rattle.conflict.proofs.Masks.{mask_ext, mask_none}

-- ---- what a step touches, by its kind

pub step_touches_cell : (n : ℕ) (q : Partitioning) (w c d : ℕ) → kind_of w ≤ 4
    → step_touches n q (step_of w) c d ≡ cell_touched n q (table_field w) (column_field w) (row_of w) c d
unfolding step_of step_touches
step_touches_cell n q w c d hi = rw (le-leb (kind_of w) 4 hi)

pub step_touches_none : (n : ℕ) (q : Partitioning) (w c d : ℕ) → 4 < kind_of w → step_touches n q (step_of w) c d ≡ false
unfolding step_touches
step_touches_none n q w c d h = step_above_4 (λ (s : Step). step_touches n q s c d ≡ false) w h (λ f v. refl) refl

-- ---- a step that names no cell

pub names_none : (s : declared.Step)
    → ((a : DeclaredAccess) (t k : ℕ) (r : DeclaredSource) → s ≡ Cell a t k r → ⊥)
    → (n : ℕ) (q : Partitioning) (c d : ℕ) → step_touches n q (step_from s) c d ≡ false
unfolding step_touches
names_none (Cell a t k r) h n q c d = absurd (h a t k r refl)
names_none (Operand f v) h n q c d = refl
names_none Tell h n q c d = refl

pub marks_none : (n : ℕ) (q : Partitioning) (s : Step) (l : List ℕ) → length l ≡ 1024 → ((c d : ℕ) → step_touches n q s c d ≡ false)
    → Joined l l (λ c. mask_of n (step_touches n q s c))
marks_none n q s l long h = record {
  long = long;
  cells = λ c k.
      sym (ap (bit_or (get_or l c 0)) (mask_ext n (step_touches n q s c) (λ d. false) (h c) ∙ mask_none n) ∙ or_zero_r (get_or l c 0));
}

-- ---- the rows of the cells of a table column, whose row has this source

module _ (n : ℕ) (q : Partitioning) (t k : ℕ) (r : Source) where
  -- the desks of the rows before this one
  pub rows_mask : (row c : ℕ) → ℕ
  rows_mask row c = mask_of n (λ d. ltb (c / 4 % 32) row && cell_touched n q t k r c d)

  -- the table l, with the rows before this one joined, from l₀
  pub record Marked (l₀ l : List ℕ) (row : ℕ) : Type 0 where
    pub long : length l ≡ 1024
    pub cells : (c : ℕ) → c < 1024 → get_or l c 0 ≡ bit_or (get_or l₀ c 0) (rows_mask row c)

  pub marked_none : (l : List ℕ) → length l ≡ 1024 → Marked l l 0
  unfolding rows_mask
  marked_none l e = record {
    long = e;
    cells = λ c h.
        sym (ap (bit_or (get_or l c 0)) (mask_ext n _ (λ d. false) (λ d. simp (le-ltb (c / 4 % 32) 0 (omega arith))) ∙ mask_none n)
        ∙ or_zero_r (get_or l c 0));
  }

  pub marked_all : (l₀ l : List ℕ) (row : ℕ) → 32 ≤ row → Marked l₀ l row → (a : Access)
      → Joined l₀ l (λ c. mask_of n (step_touches n q (cell a t k r) c))
  unfolding rows_mask step_touches
  marked_all l₀ l row h m a = record {
    long = m.long;
    cells = λ c b.
        m.cells c b
        ∙ ap (bit_or (get_or l₀ c 0)) (mask_ext n _ (cell_touched n q t k r c) (λ d. simp (lt-ltb (c / 4 % 32) row (omega arith))));
  }

  module _ (in_bits : (t < 8) × (k < 4)) (row : ℕ) (small : row < 32) where
    module _ (c : ℕ) (in_table : c < 1024) where
      -- at the cell of the row: nothing before, and then the row's own mask
      before_here : c ≡ cell_number t row k → rows_mask row c ≡ 0
      unfolding rows_mask
      before_here e =
          let s = in_bits.1 in
          mask_ext n _ (λ d. false) (λ d. simp (le-ltb (c / 4 % 32) row (omega arith))) ∙ mask_none n

      after_here : c ≡ cell_number t row k → rows_mask (row + 1) c ≡ mask_of n (row_touched n q r row)
      unfolding rows_mask cell_touched
      after_here e =
          let p = cell_parts t row k small in_bits.1 in
          let a : c / 128 ≡ t = ap (λ (x : ℕ). x / 128) e ∙ p.0 in
          let b : c % 4 ≡ k = ap (λ (x : ℕ). x % 4) e ∙ p.1 in
          let s : c / 4 % 32 ≡ row = ap (λ (x : ℕ). x / 4 % 32) e ∙ p.2 in
          mask_ext n _ (row_touched n q r row)
          (λ d. simp (s, a, b, eq-eqb t t refl, eq-eqb k k refl, lt-ltb row (row + 1) (omega arith)))

      -- elsewhere: as before
      elsewhere : (c ≡ cell_number t row k → ⊥) → rows_mask (row + 1) c ≡ rows_mask row c
      unfolding rows_mask cell_touched
      elsewhere ne = mask_ext n _ _ (λ d. go d (eqb (c / 4 % 32) row) (eqb (c / 128) t) (eqb (c % 4) k) refl refl refl)
        where
          go : (d : ℕ) (x a b : Bool) → eqb (c / 4 % 32) row ≡ x → eqb (c / 128) t ≡ a → eqb (c % 4) k ≡ b
              → (ltb (c / 4 % 32) (row + 1) && (eqb (c / 128) t && (eqb (c % 4) k && row_touched n q r (c / 4 % 32) d)))
              ≡ (ltb (c / 4 % 32) row && (eqb (c / 128) t && (eqb (c % 4) k && row_touched n q r (c / 4 % 32) d)))
          go d true true true ex ea eb =
              absurd (ne (parts_cell c t row k (eqb-true (c / 128) t ea) (eqb-true (c % 4) k eb) (eqb-true (c / 4 % 32) row ex)))
          go d true true false ex ea eb = simp (ea, eb, and-false)
          go d true false b ex ea eb = simp (ea, and-false)
          go d false a b ex ea eb =
              ⊎_elim (λ (l : c / 4 % 32 < row). simp (lt-ltb (c / 4 % 32) row l, lt-ltb (c / 4 % 32) (row + 1) (omega arith)))
              (λ (g : row ≤ c / 4 % 32). simp (
                le-ltb (c / 4 % 32) row g,
                le-ltb (c / 4 % 32) (row + 1)
                    (omega (arith, eqb-false (c / 4 % 32) row ex)),
              ))
              (cases_lt (c / 4 % 32) row)

    pub marked_more : (l₀ l : List ℕ) (m : ℕ) → m ≡ mask_of n (row_touched n q r row) → Marked l₀ l row
        → Marked l₀ (set l (cell_number t row k) (bit_or (get_or l (cell_number t row k) 0) m)) (row + 1)
    marked_more l₀ l m e p =
        let at = cell_number t row k in
        let x = bit_or (get_or l at 0) m in
        record {
          long = length-set l _ _ ∙ p.long;
          cells = λ c h. by_same c at
              (λ s. ap (λ (i : ℕ). get_or (set l at x) i 0) s
              ∙ get_or-set_same l at x 0 (omega (arith, p.long, cell_number_low t row k in_bits.0 small in_bits.1))
              ∙ ap₂ bit_or
              (ap (λ (i : ℕ). get_or l i 0) (sym s) ∙ p.cells c h ∙ ap (bit_or (get_or l₀ c 0)) (before_here c h s)
              ∙ or_zero_r (get_or l₀ c 0))
              (e ∙ sym (after_here c h s)))
              (λ s. get_or-set_other l at c x 0 s ∙ p.cells c h ∙ ap (bit_or (get_or l₀ c 0)) (sym (elsewhere c h s)));
        }
