-- For each cell and desk that the test finds: parameters of an operation of that desk that names the cell.
-- Assumes nothing.
use mathlib.Core.Path.{◌≡◌, refl, ◌∙◌, sym, ap, subst}
use mathlib.Core.Bool.{Bool, true, false, cond}
use mathlib.Core.List.{List, [], ◌∷◌}
use mathlib.Core.Logic.{⊎_elim}
use Prim.Native.Nat.{ℕ, zero, suc, ◌+◌, ◌%◌, ◌≤◌, ◌<◌}
use native.Mathlib.Nat.{mod-lt, mod-eq_of_lt}
use native.Mathlib.Omega.{arith}
use lib.Dec.{ltb, eqb}
use lib.ListN.{length, get_or, drop, get_or-eq_default}
use lib.Seq.{get_or-drop}
use borrow.Author.Tests.{eq-eqb, ne_eqb, eqb-true, ltb-true, le-leb}
use Rattle.std.specs.List.{list_all}
use Rattle.std.proofs.lemmas.Bool.{and_from, cases_lt}
use Rattle.lists.proofs.Laws.{and_fst, and_snd, member_all, by_same}
use Rattle.plan.specs.Plan.{Source, param, fixed, Step, cell, operand, tells}
use Rattle.plan.specs.Plan.{Partitioning, by_param, unpartitioned, undecided, Transaction}
use Rattle.plan.specs.Admission.{source_exists, part_exists}
use Rattle.operation.specs.Operation.{value_of, desk_by}
use Rattle.operation.specs.Admission.{unused_zero, row_in_range, parameters_pass}
use Rattle.conflict.specs.Touch.{row_touched}

is_row : Source → ℕ → Bool
is_row (param i) j = eqb j i
is_row (fixed v) j = false

is_part : Partitioning → ℕ → Bool
is_part (by_param q) j = eqb j q
is_part unpartitioned j = false
is_part undecided j = false

-- the row where the parameter is the row, the desk where it decides the desk, else 0
value_at : Partitioning → Source → ℕ → ℕ → ℕ → ℕ
value_at q r row d j = cond (is_row r j) row (cond (is_part q j) d 0)

abbrev four : (ℕ → ℕ) → List ℕ
four f = f 0 ∷ f 1 ∷ f 2 ∷ f 3 ∷ []

pub witness : Partitioning → Source → ℕ → ℕ → List ℕ
witness q r row d = four (value_at q r row d)

pub witness_four : (q : Partitioning) (r : Source) (row d : ℕ) → length (witness q r row d) ≡ 4
unfolding witness
witness_four q r row d = refl

four_at : (f : ℕ → ℕ) (i : ℕ) → i < 4 → get_or (four f) i 0 ≡ f i
four_at f zero h = refl
four_at f (suc zero) h = refl
four_at f (suc (suc zero)) h = refl
four_at f (suc (suc (suc zero))) h = refl
four_at f (suc (suc (suc (suc i)))) h = absurd (omega arith)

four_past : (f : ℕ → ℕ) (i : ℕ) → 4 ≤ i → get_or (four f) i 0 ≡ 0
four_past f i h = get_or-eq_default (four f) 0 h

value_le : (q : Partitioning) (r : Source) (row d : ℕ) → row < 32 → d < 32 → (j : ℕ) → value_at q r row d j ≤ 31
unfolding value_at
value_le q r row d hr hd j = go (is_row r j) (is_part q j)
  where
    go : (a b : Bool) → cond a row (cond b d 0) ≤ 31
    go true b = omega arith
    go false true = omega arith
    go false false = omega arith

-- every word is at most 31
pub witness_low : (q : Partitioning) (r : Source) (row d : ℕ) → row < 32 → d < 32 → (i : ℕ) → get_or (witness q r row d) i 0 ≤ 31
unfolding witness
witness_low q r row d hr hd i =
    ⊎_elim (λ (l : i < 4). omega (arith, four_at (value_at q r row d) i l, value_le q r row d hr hd i))
    (λ (g : 4 ≤ i). omega (arith, four_past (value_at q r row d) i g)) (cases_lt i 4)

-- ---- question 8

row_unused : (p : ℕ) (r : Source) (j : ℕ) → source_exists p r ≡ true → p ≤ j → is_row r j ≡ false
unfolding source_exists is_row
row_unused p (param i) j e h = ne_eqb j i (λ s. omega (arith, ltb-true i p e))
row_unused p (fixed v) j e h = refl

part_unused : (p : ℕ) (q : Partitioning) (j : ℕ) → part_exists p q ≡ true → p ≤ j → is_part q j ≡ false
unfolding part_exists is_part
part_unused p (by_param i) j e h = ne_eqb j i (λ s. omega (arith, ltb-true i p e))
part_unused p unpartitioned j e h = refl
part_unused p undecided j e h = refl

all_zero : (ps : List ℕ) → ((i : ℕ) → get_or ps i 0 ≡ 0) → list_all (λ w. eqb w 0) ps ≡ true
all_zero [] h = refl
all_zero (w ∷ ps) h = and_from (eqb w 0) _ (eq-eqb w 0 (h 0)) (all_zero ps (λ i. h (suc i)))

rows_pass : (ps : List ℕ) → ((i : ℕ) → get_or ps i 0 ≤ 31) → (s : Step) → row_in_range ps s ≡ true
unfolding row_in_range
rows_pass ps h (cell a t c (param i)) = le-leb (get_or ps i 0) 31 (h i)
rows_pass ps h (cell a t c (fixed v)) = refl
rows_pass ps h (operand f v) = refl
rows_pass ps h tells = refl

pub witness_passes : (t : Transaction) (r : Source) (row d : ℕ) → source_exists t.params r ≡ true → part_exists t.params t.part
    ≡ true
    → row < 32 → d < 32 → parameters_pass t (witness t.part r row d) ≡ true
unfolding parameters_pass unused_zero witness value_at
witness_passes t r row d rn pn hr hd =
    and_from _ _
    (all_zero (drop t.params (witness t.part r row d))
    (λ i. get_or-drop t.params (witness t.part r row d) i 0 ∙ zero_from (t.params + i) (omega arith)))
    (member_all (row_in_range (witness t.part r row d)) t.steps
    (λ s m. rows_pass (witness t.part r row d) (witness_low t.part r row d hr hd) s))
  where
    zero_from : (j : ℕ) → t.params ≤ j → get_or (witness t.part r row d) j 0 ≡ 0
    zero_from j h =
        ⊎_elim
        (λ (l : j < 4). four_at (value_at t.part r row d) j l
        ∙ simp (row_unused t.params r j rn h, part_unused t.params t.part j pn h))
        (λ (g : 4 ≤ j). four_past (value_at t.part r row d) j g) (cases_lt j 4)

-- ---- its desk, and the row that it gives

-- the test finds desks below n only
pub desk_below : (n : ℕ) (q : Partitioning) (r : Source) (row d : ℕ) → 1 ≤ n → row_touched n q r row d ≡ true → d < n
unfolding row_touched
desk_below n (by_param q) (fixed v) row d h t = ltb-true d n (and_snd (eqb row v) _ t)
desk_below n (by_param q) (param i) row d h t = go (eqb i q) t
  where
    go : (b : Bool) → cond b (eqb d (row % n)) (ltb d n) ≡ true → d < n
    go true e = subst (λ (x : ℕ). x < n) (sym (eqb-true d (row % n) e)) (mod-lt row h)
    go false e = ltb-true d n e
desk_below n unpartitioned (fixed v) row d h t = omega (arith, eqb-true d 0 (and_snd (eqb row v) _ t))
desk_below n unpartitioned (param i) row d h t = omega (arith, eqb-true d 0 t)
desk_below n undecided (fixed v) row d h t = omega (arith, eqb-true d 0 (and_snd (eqb row v) _ t))
desk_below n undecided (param i) row d h t = omega (arith, eqb-true d 0 t)

pub witness_row : (n p : ℕ) (q : Partitioning) (r : Source) (row d : ℕ) → p ≤ 4 → source_exists p r ≡ true → row_touched n q r row d ≡ true
    → value_of (witness q r row d) r ≡ row
unfolding row_touched source_exists witness value_at is_row
witness_row n p q (param i) row d few e t =
    four_at (value_at q (param i) row d) i (omega (arith, ltb-true i p e)) ∙ simp (eq-eqb i i refl)
witness_row n p (by_param q) (fixed v) row d few e t = sym (eqb-true row v (and_fst _ _ t))
witness_row n p unpartitioned (fixed v) row d few e t = sym (eqb-true row v (and_fst _ _ t))
witness_row n p undecided (fixed v) row d few e t = sym (eqb-true row v (and_fst _ _ t))

pub witness_desk : (n p : ℕ) (q : Partitioning) (r : Source) (row d : ℕ) → p ≤ 4 → part_exists p q ≡ true → 1 ≤ n
    → row_touched n q r row d ≡ true
    → desk_by n q (witness q r row d) ≡ d
unfolding row_touched part_exists witness value_at is_row is_part
witness_desk n p (by_param j) (fixed v) row d few e h t =
    ap (λ (x : ℕ). x % n) (four_at (value_at (by_param j) (fixed v) row d) j (omega (arith, ltb-true j p e)) ∙ simp (eq-eqb j j refl))
    ∙ mod-eq_of_lt (ltb-true d n (and_snd (eqb row v) _ t))
witness_desk n p (by_param j) (param i) row d few e h t =
    let place = four_at (value_at (by_param j) (param i) row d) j (omega (arith, ltb-true j p e)) in
    by_same i j
    (λ s. ap (λ (x : ℕ). x % n) (place ∙ simp (eq-eqb j i (sym s))) ∙ sym (eqb-true d (row % n) (simp (eq-eqb i j s) at t)))
    (λ s. ap (λ (x : ℕ). x % n) (place ∙ simp (ne_eqb j i (λ k. s (sym k)), eq-eqb j j refl))
    ∙ mod-eq_of_lt (ltb-true d n (simp (ne_eqb i j s) at t)))
witness_desk n p unpartitioned (fixed v) row d few e h t = sym (eqb-true d 0 (and_snd (eqb row v) _ t))
witness_desk n p unpartitioned (param i) row d few e h t = sym (eqb-true d 0 t)
witness_desk n p undecided (fixed v) row d few e h t = sym (eqb-true d 0 (and_snd (eqb row v) _ t))
witness_desk n p undecided (param i) row d few e h t = sym (eqb-true d 0 t)
