-- Which desks touch a row, by the three sets: every desk, the row's own, desk 0. It is the test of touching that the masks are made of.
-- Assumes nothing.
use mathlib.Core.Path.{◌≡◌, refl, ◌∙◌, sym, ap, ap₂}
use mathlib.Core.Bool.{Bool, true, false, not, ◌&&◌, ◌||◌, cond, or-false, or_assoc, and-or_distrib_right, false≢true}
use mathlib.Core.List.{List, [], ◌∷◌, map}
use mathlib.Core.Logic.{◌⊎◌, inl, inr, ⊎_elim}
use Prim.Native.Nat.{ℕ, zero, suc, ◌+◌, ◌*◌, ◌/◌, ◌%◌, ◌<◌}
use native.Mathlib.Omega.{arith}
use lib.Dec.{ltb, leb, eqb}
use lib.ListN.{take, drop}
use borrow.Author.Tests.{eq-eqb, ne_eqb, eqb-true, leb-true, leb-false}
use Rattle.std.specs.List.{list_all, list_any}
use Rattle.lists.proofs.Laws.{and_fst, and_snd, by_same, or_interchange}
use Rattle.word.specs.Field.{kind_of, table_field, column_field, row_source, fixed_row, step_count, partitioning_field}
use Rattle.plan.specs.Plan.{Source, param, fixed, by_param}
use Rattle.plan.specs.Decode.{step_of, part_by, row_of, transactions_of}
use Rattle.plan.specs.Admission.{step_formed, well_formed, decided, part_decided}
use Rattle.plan.proofs.Words.{step_kind_low, transaction_kind, transaction_partitioning}
use Rattle.plan.proofs.FormedParts.{formed_parts}
use Rattle.plan.proofs.Partitionings.{formed_decided}
use Rattle.conflict.specs.Touch.{row_touched, cell_touched, step_touches, transactions_touch}
use Rattle.conflict.specs.Written.{row_given}
use Rattle.conflict.proofs.Marks.{step_touches_cell, step_touches_none}
use Rattle.partitioning.specs.Touched.{table_column, group_of, set_of, is_transaction}
use Rattle.partitioning.proofs.RowsPut.{puts, closed_puts}

-- with n desks, desk d touches a row whose own desk is m: every desk does (e), the own one does (o), desk 0 does (z)
abbrev pub touched_by : ℕ → ℕ → Bool → Bool → Bool → ℕ → Bool
touched_by n m e o z d = (e && ltb d n) || ((o && eqb d m) || (z && eqb d 0))

touched_or : (n m d : ℕ) (e e' o o' z z' : Bool)
    → touched_by n m (e || e') (o || o') (z || z') d ≡ (touched_by n m e o z d || touched_by n m e' o' z' d)
touched_or n m d e e' o o' z z' =
    ap₂ ◌||◌ (and-or_distrib_right e e' (ltb d n))
    (ap₂ ◌||◌ (and-or_distrib_right o o' (eqb d m)) (and-or_distrib_right z z' (eqb d 0))
    ∙ or_interchange (o && eqb d m) (o' && eqb d m) (z && eqb d 0) (z' && eqb d 0))
    ∙ or_interchange (e && ltb d n) (e' && ltb d n) _ _

-- ---- a row, by its source

-- a partitioning field that is formed and not open
abbrev Decided : ℕ → Type 0
Decided q = (q < 4) ⊎ (q ≡ 15)

-- the step's set among the three of table column a
abbrev in_set : ℕ → ℕ → ℕ → Bool → Bool
in_set g a k b = eqb (g * 32 + a) k && b

module _ (n m d a : ℕ) (b : Bool) where
  abbrev by_group : ℕ → Bool
  by_group g = touched_by n m (in_set g a a b) (in_set g a (32 + a) b) (in_set g a (64 + a) b) d

  group_every : by_group 0 ≡ (b && ltb d n)
  group_every =
      rw (
        eq-eqb (0 * 32 + a) a (omega arith),
        ne_eqb (0 * 32 + a) (32 + a) (λ e. omega arith),
        ne_eqb (0 * 32 + a) (64 + a) (λ e. omega arith),
      )
      (or-false (b && ltb d n))

  group_own : by_group 1 ≡ (b && eqb d m)
  group_own =
      rw (
        ne_eqb (1 * 32 + a) a (λ e. omega arith),
        eq-eqb (1 * 32 + a) (32 + a) (omega arith),
        ne_eqb (1 * 32 + a) (64 + a) (λ e. omega arith),
      )
      (or-false (b && eqb d m))

  group_zero : by_group 2 ≡ (b && eqb d 0)
  group_zero =
      rw (
        ne_eqb (2 * 32 + a) a (λ e. omega arith),
        ne_eqb (2 * 32 + a) (32 + a) (λ e. omega arith),
        eq-eqb (2 * 32 + a) (64 + a) (omega arith),
      )

module _ (n q x v r d a : ℕ) where
  abbrev source : Source
  source = cond (eqb x 7) (fixed v) (param x)

  abbrev group : ℕ
  group = cond (eqb q 15) 2 (cond (eqb x q) 1 0)

  row_touched_lem : Decided q → row_touched n (part_by q) source r d ≡ by_group n (r % n) d a (row_given source r) group
  unfolding row_touched part_by
  row_touched_lem (inr e) = rw e (go (eqb x 7))
    where
      go : (s : Bool) → row_touched n (part_by 15) (cond s (fixed v) (param x)) r d
          ≡ by_group n (r % n) d a (row_given (cond s (fixed v) (param x)) r) 2
      go true = sym (group_zero n (r % n) d a (eqb r v))
      go false = sym (group_zero n (r % n) d a true)
  row_touched_lem (inl h) =
      rw (ne_eqb q 15 (λ e. omega arith), ne_eqb q 14 (λ e. omega arith)) (go (eqb x 7) (eqb x q) refl refl)
    where
      go : (s t : Bool) → eqb x 7 ≡ s → eqb x q ≡ t → row_touched n (by_param q) (cond s (fixed v) (param x)) r d
          ≡ by_group n (r % n) d a (row_given (cond s (fixed v) (param x)) r) (cond t 1 0)
      go true true es et = absurd (omega (arith, eqb-true x 7 es, eqb-true x q et))
      go true false es et = sym (group_every n (r % n) d a (eqb r v))
      go false true es et = rw et (sym (group_own n (r % n) d a true))
      go false false es et = rw et (sym (group_every n (r % n) d a true))

-- ---- a step

-- cell c stands in row r of table column a
pub record InTableColumn (a r c : ℕ) : Type 0 where
  pub low : a < 32
  pub table : c / 128 ≡ a / 4
  pub column : c % 4 ≡ a % 4
  pub row : c / 4 % 32 ≡ r

pub column_parts : (w : ℕ) → table_column w ≡ table_field w * 4 + column_field w
column_parts w = omega arith

column_join : (x t k a : ℕ) → x ≡ t * 4 + k → a / 4 ≡ t → a % 4 ≡ k → x ≡ a
column_join x t k a e f g = omega arith

module _ (n q r a c d : ℕ) (i : InTableColumn a r c) where
  -- by whether the step's table column is a
  same_column : (w : ℕ) → table_column w ≡ a → (eqb (c / 128) (table_field w) ≡ true) × (eqb (c % 4) (column_field w) ≡ true)
  same_column w e = (
    eq-eqb (c / 128) (table_field w) (omega (arith, column_parts w, e, i.table)),
    eq-eqb (c % 4) (column_field w) (omega (arith, column_parts w, e, i.column)),
  )

  other_column : (w : ℕ) (b : Bool) → (table_column w ≡ a → ⊥) → (eqb (c / 128) (table_field w) && (eqb (c % 4) (column_field w) && b))
      ≡ false
  other_column w b e = go (eqb (c / 128) (table_field w)) (eqb (c % 4) (column_field w)) refl refl
    where
      go : (x y : Bool) → eqb (c / 128) (table_field w) ≡ x → eqb (c % 4) (column_field w) ≡ y → (x && (y && b)) ≡ false
      go true true ex ey =
          absurd (e (column_join (table_column w) (table_field w) (column_field w) a (column_parts w)
          (sym i.table ∙ eqb-true (c / 128) (table_field w) ex) (sym i.column ∙ eqb-true (c % 4) (column_field w) ey)))
      go true false ex ey = refl
      go false y ex ey = refl

  other_set : (g x : ℕ) (b : Bool) → x < 32 → (x ≡ a → ⊥)
      → touched_by n (r % n) (eqb (g * 32 + x) a && b) (eqb (g * 32 + x) (32 + a) && b) (eqb (g * 32 + x) (64 + a) && b) d ≡ false
  other_set g x b h e =
      rw (
        ne_eqb (g * 32 + x) a (λ s. e (omega (arith, h, i.low))),
        ne_eqb (g * 32 + x) (32 + a) (λ s. e (omega (arith, h, i.low))),
        ne_eqb (g * 32 + x) (64 + a) (λ s. e (omega (arith, h, i.low))),
      )

  -- a read or write step
  module _ (w : ℕ) (closed : Decided q) where
    abbrev puts_into : ℕ → Bool
    puts_into k = eqb (set_of q w) k && row_given (row_of w) r

    cell_touched_lem : cell_touched n (part_by q) (table_field w) (column_field w) (row_of w) c d
        ≡ touched_by n (r % n) (puts_into a) (puts_into (32 + a)) (puts_into (64 + a)) d
    unfolding cell_touched
    cell_touched_lem =
        by_same (table_column w) a
        (λ e. rw ((same_column w e).0, (same_column w e).1, i.row, e)
        (row_touched_lem n q (row_source w) (fixed_row w) r d a closed))
        (λ e. other_column w (row_touched n (part_by q) (row_of w) (c / 4 % 32) d) e
        ∙ sym (other_set (group_of q w) (table_column w) (row_given (row_of w) r) (omega arith) e))

    closed_field : eqb q 14 ≡ false
    closed_field = ne_eqb q 14 (λ e. ⊎_elim (λ (h : q < 4). omega arith) (λ (h : q ≡ 15). omega arith) closed)

    step_touched : step_touches n (part_by q) (step_of w) c d
        ≡ touched_by n (r % n) (puts a q w r) (puts (32 + a) q w r) (puts (64 + a) q w r) d
    unfolding puts step_touches
    step_touched = go (leb (kind_of w) 4) refl
      where
        go : (b : Bool) → leb (kind_of w) 4 ≡ b → step_touches n (part_by q) (step_of w) c d
            ≡ touched_by n (r % n) ((b && not (eqb q 14)) && puts_into a) ((b && not (eqb q 14)) && puts_into (32 + a))
            ((b && not (eqb q 14)) && puts_into (64 + a)) d
        go true e = rw closed_field (step_touches_cell n (part_by q) w c d (leb-true (kind_of w) 4 e) ∙ cell_touched_lem)
        go false e = step_touches_none n (part_by q) w c d (leb-false (kind_of w) 4 e)

-- ---- the steps of a transaction, and the transactions

module _ (n r a c d : ℕ) (i : InTableColumn a r c) where
  steps_touched : (q : ℕ) → Decided q → (ws : List ℕ)
      → list_any (λ s. step_touches n (part_by q) s c d) (map step_of ws)
      ≡ touched_by n (r % n) (list_any (λ w. puts a q w r) ws) (list_any (λ w. puts (32 + a) q w r) ws)
      (list_any (λ w. puts (64 + a) q w r) ws) d
  steps_touched q h [] = refl
  steps_touched q h (w ∷ ws) =
      ap₂ ◌||◌ (step_touched n q r a c d i w h) (steps_touched q h ws)
      ∙ sym (touched_or n (r % n) d (puts a q w r) (list_any (λ w. puts a q w r) ws) (puts (32 + a) q w r)
      (list_any (λ w. puts (32 + a) q w r) ws) (puts (64 + a) q w r) (list_any (λ w. puts (64 + a) q w r) ws))

-- a step's word is no transaction's
pub step_no_transaction : (w : ℕ) → step_formed w ≡ true → is_transaction w ≡ false
step_no_transaction w f = ne_eqb (kind_of w) 2 (λ e. omega (arith, step_kind_low w f))

steps_put : (k r q m : ℕ) (ws : List ℕ) → list_all step_formed (take m ws) ≡ true
    → closed_puts k r q ws ≡ (list_any (λ w. puts k q w r) (take m ws) || closed_puts k r q (drop m ws))
unfolding closed_puts
steps_put k r q zero ws f = refl
steps_put k r q (suc m) [] f = refl
steps_put k r q (suc m) (w ∷ ws) f =
    rw (step_no_transaction w (and_fst (step_formed w) _ f))
    (ap (λ (b : Bool). puts k q w r || b) (steps_put k r q m ws (and_snd (step_formed w) _ f))
    ∙ sym (or_assoc (puts k q w r) (list_any (λ w. puts k q w r) (take m ws)) (closed_puts k r q (drop m ws))))

module _ (n r a c d : ℕ) (i : InTableColumn a r c) where
  pub transactions_touched : (m : ℕ) (ws : List ℕ) (q : ℕ) → well_formed m ws ≡ true → list_all decided (transactions_of m ws) ≡ true
      → transactions_touch n (transactions_of m ws) c d
      ≡ touched_by n (r % n) (closed_puts a r q ws) (closed_puts (32 + a) r q ws) (closed_puts (64 + a) r q ws) d
  unfolding well_formed transactions_of closed_puts
  transactions_touched zero [] q f e = refl
  transactions_touched zero (w ∷ ws) q f e = absurd (false≢true f)
  transactions_touched (suc m) [] q f e = absurd (false≢true f)
  transactions_touched (suc m) (w ∷ ws) q f e =
      let parts = formed_parts m w ws f in
      let formed = parts.steps in
      let p = partitioning_field w in
      let s = take (step_count w) ws in
      let l = drop (step_count w) ws in
      let g = formed_decided p (transaction_partitioning w parts.form) (and_fst (part_decided (part_by p)) _ e) in
      rw (
        eq-eqb (kind_of w) 2 (transaction_kind w parts.form),
        steps_put a r p (step_count w) ws formed,
        steps_put (32 + a) r p (step_count w) ws formed,
        steps_put (64 + a) r p (step_count w) ws formed,
      )
      (ap₂ ◌||◌ (steps_touched n r a c d i p g s) (transactions_touched m l p parts.rest (and_snd (part_decided (part_by p)) _ e))
      ∙ sym (touched_or n (r % n) d (list_any (λ w. puts a p w r) s) (closed_puts a r p l) (list_any (λ w. puts (32 + a) p w r) s)
      (closed_puts (32 + a) r p l) (list_any (λ w. puts (64 + a) p w r) s) (closed_puts (64 + a) r p l)))
