-- Bounds of what the steps of a transaction name: fields within their bits, and cells below 1,024.
-- Assumes nothing.
use mathlib.Core.Path.{◌≡◌, refl, subst}
use mathlib.Core.Bool.{Bool, true, false, cond}
use mathlib.Core.List.Memᴰ
use mathlib.Core.List.{List, [], ◌∷◌, Memᴰ}
use Prim.Native.Nat.{ℕ, ◌+◌, ◌^◌, ◌<◌}
use native.Mathlib.Omega.{arith}
use lib.ListN.{get_or, take, drop}
use lib.Dec.{leb, eqb}
use borrow.Author.Tests.{leb-true}
use Rattle.std.specs.List.{list_all}
use Rattle.lists.proofs.Laws.{and_fst, and_snd}
use Rattle.word.specs.Field.{kind_of, step_count, table_field, column_field, row_source, fixed_row, operand_source, fixed_number}
use Rattle.plan.specs.Plan.{Source, param, fixed, Access, reads, writes, Action, Step, cell, operand, tells}
use Rattle.plan.specs.Decode.{source_by, access_by, action_by, is_tell, step_of}
use Rattle.plan.specs.Place.{transaction_from}
use Rattle.operation.specs.Operation.{value_of, cell_number, cells_named}
use Rattle.operation.specs.Admission.{row_in_range}

-- ---- a step that a word stands for

-- its fields keep within their bits
abbrev pub FieldsFit : Step → Type 0
FieldsFit (cell a t k (param i)) = (t < 8) × (k < 4)
FieldsFit (cell a t k (fixed v)) = (t < 8) × (k < 4) × (v < 32)
FieldsFit (operand f (param i)) = Unit {0}
FieldsFit (operand f (fixed v)) = v < 2 ^ 25
FieldsFit tells = Unit {0}

abbrev pub AllFit : List Step → Type 0
AllFit ss = (st : Step) → Memᴰ st ss → FieldsFit st

cell_fits_lem : (a : Access) (w s : ℕ) → FieldsFit (cell a (table_field w) (column_field w) (source_by s (fixed_row w)))
cell_fits_lem a w s = go (eqb s 7)
  where
    go : (b : Bool) → FieldsFit (cell a (table_field w) (column_field w) (cond b (fixed (fixed_row w)) (param s)))
    go true = (omega arith, omega arith, omega arith)
    go false = (omega arith, omega arith)

operand_fits : (f : Action) (w s : ℕ) → FieldsFit (operand f (source_by s (fixed_number w)))
operand_fits f w s = go (eqb s 7)
  where
    go : (b : Bool) → FieldsFit (operand f (cond b (fixed (fixed_number w)) (param s)))
    go true = omega arith
    go false = tt

pub decoded_fits : (w : ℕ) → FieldsFit (step_of w)
unfolding step_of
decoded_fits w =
    go (leb (kind_of w) 4) _ _ (cell_fits_lem (access_by (kind_of w)) w (row_source w))
    (go (is_tell w) tells _ tt (operand_fits (action_by (kind_of w)) w (operand_source w)))
  where
    go : (b : Bool) (s t : Step) → FieldsFit s → FieldsFit t → FieldsFit (cond b s t)
    go true s t p q = p
    go false s t p q = q

pub transaction_fits : (ws : List ℕ) (at : ℕ) → AllFit (transaction_from ws at).steps
transaction_fits ws at st m =
    let r = Memᴰ.of_map step_of (take (step_count (get_or ws at 0)) (drop (at + 1) ws)) m in
    subst FieldsFit r.2 (decoded_fits r.0)

-- ---- cells: table 0–7, row 0–31, column 0–3

cell_low : (ps : List ℕ) (a : Access) (t k : ℕ) (r : Source) → FieldsFit (cell a t k r) → row_in_range ps (cell a t k r) ≡ true
    → cell_number t (value_of ps r) k < 1024
unfolding row_in_range
cell_low ps a t k (param i) f e = let h = leb-true (get_or ps i 0) 31 e in omega arith
cell_low ps a t k (fixed v) f e = omega arith

pub cells_low : (a : Access) (ps : List ℕ) (ss : List Step) → AllFit ss → list_all (row_in_range ps) ss ≡ true
    → (c : ℕ) → Memᴰ c (cells_named a ps ss) → c < 1024
unfolding cells_named
cells_low a ps [] f e c m = absurd (Memᴰ.not-nil m)
cells_low a ps (operand g v ∷ ss) f e c m =
    cells_low a ps ss (λ st h. f st (Memᴰ.tail h)) (and_snd (row_in_range ps (operand g v)) _ e) c m
cells_low a ps (tells ∷ ss) f e c m = cells_low a ps ss (λ st h. f st (Memᴰ.tail h)) (and_snd (row_in_range ps tells) _ e) c m
cells_low a ps (cell b t k r ∷ ss) f e c m =
    go a b m (cells_low a ps ss (λ st h. f st (Memᴰ.tail h)) (and_snd (row_in_range ps (cell b t k r)) _ e) c)
  where
    low : cell_number t (value_of ps r) k < 1024
    low = cell_low ps b t k r (f (cell b t k r) (Memᴰ.head refl)) (and_fst _ _ e)

    first : (cs : List ℕ) → Memᴰ c (cell_number t (value_of ps r) k ∷ cs) → (Memᴰ c cs → c < 1024) → c < 1024
    first cs (Memᴰ.head q) h = let l = low in omega arith
    first cs (Memᴰ.tail n) h = h n

    go : (a b : Access) → Memᴰ c (cells_named a ps (cell b t k r ∷ ss)) → (Memᴰ c (cells_named a ps ss) → c < 1024) → c < 1024
    go reads reads n h = first (cells_named reads ps ss) n h
    go reads writes n h = h n
    go writes reads n h = h n
    go writes writes n h = first (cells_named writes ps ss) n h
