-- The computed cause of a wait is the one over all operations: "each named touch real and each lower one absent".
--     cause_unique              no operation has two causes
--     free_or_local_has_none    a free or local one has none
--     global_has_cause          every global one has one
--     cause_means               the computed one is it
--     answers_global            and the classifier gives it
-- Assumes nothing.
use mathlib.Core.Path.{◌≡◌, refl, ◌∙◌, sym, ap₂, subst}
use mathlib.Core.Bool.{true}
use mathlib.Core.List.{List}
use mathlib.Core.Logic.{⊎_elim}
use Prim.Native.Nat.{ℕ, ◌^◌, ◌≤◌, ◌<◌}
use native.Mathlib.Omega.{arith}
use lib.ListN.{length, get_or}
use Rattle.verdict.specs.Verdict.{Verdict, accepted, refused, ◌then◌, if_accepted}
use Rattle.verdict.proofs.Verdicts.{then_accepted}
use Rattle.lists.proofs.Laws.{by_less, lowest_below_passes, lowest_below_least}
use Rattle.plan.specs.Plan.{writes, Plan, transaction_at}
use Rattle.plan.specs.Decode.{plan_of}
use Rattle.plan.specs.Admission.{plan_verdict}
use Rattle.operation.specs.Operation.{Operation, operation, transaction_of, desk_of, write_set, MayWrite, MayTouch}
use Rattle.operation.specs.Admission.{IsOperation, operation_verdict}
use Rattle.operation.specs.Store.{store_size}
use Rattle.operation.proofs.Admitted.{transaction_below, rows_passed}
use Rattle.operation.proofs.Bounds.{cells_low}
use Rattle.conflict.specs.declared.cause.Cause.{Cause}
use Rattle.conflict.specs.Touch.{desk_mask}
use Rattle.conflict.specs.Class.{OtherDesk, Global, Class, free, local, global, class_of}
use Rattle.conflict.specs.Cause.{cause, IsCause, cause_desk, cause_cell, cause_transaction, cause_of}
use Rattle.conflict.specs.Cause.{CauseMeans, GlobalHasCause, FreeOrLocalHasNone, CauseUnique}
use Rattle.conflict.specs.Answer.{Classified, classed_global, class_refused, with_cause, classified_by, classify_result, AnswersGlobal}
use Rattle.conflict.proofs.Touching.{touched, touched_by, touched_some, sound_at, some_desk, few_desks}
use Rattle.conflict.proofs.OtherDesks.{cause_desk_differs, cause_desk_touched, cause_desk_least, touched_has_other}
use Rattle.conflict.proofs.OtherDesks.{cause_cell_found, cause_cell_least}
use Rattle.conflict.proofs.MaskMeaning.{desk_low, toucher_found, found_touch, touch_found}
use Rattle.conflict.proofs.Classes.{class_global}

-- ---- what a cause says

module _ (p : Plan) (o : Operation) where
  -- the operation that touches is of another desk
  touch_other : (x : Cause) (a : IsCause p o x) → OtherDesk p o a.touch.0
  touch_other x a q = a.other_desk (sym a.touch.2 ∙ q)

  cause_global : (x : Cause) → IsCause p o x → Global p o
  cause_global x a = (
    λ f. f.0 x.cell a.may_write,
    λ l. l.1 x.cell a.may_write a.touch.0 a.touch.1 (touch_other x a) a.touch.4,
  )

  -- ---- no cause is lower than another

  cell_not_lower : (x y : Cause) → IsCause p o x → IsCause p o y → y.cell < x.cell → ⊥
  cell_not_lower x y a b l =
      a.no_lower_cell y.cell l b.may_write b.touch.0 b.touch.1 (touch_other y b) b.touch.4

  module _ (x y : Cause) (c : y.cell ≡ x.cell) where
    touch_at : (b : IsCause p o y) → MayTouch p b.touch.0 x.cell
    touch_at b = subst (MayTouch p b.touch.0) c b.touch.4

    desk_not_lower : IsCause p o x → IsCause p o y → y.desk < x.desk → ⊥
    desk_not_lower a b l =
        a.no_lower_desk b.touch.0 b.touch.1 (touch_other y b) (omega (arith, l, b.touch.2)) (touch_at b)

    transaction_not_lower : y.desk ≡ x.desk → IsCause p o x → IsCause p o y → y.transaction < x.transaction → ⊥
    transaction_not_lower d a b l =
        a.no_lower_transaction b.touch.0 b.touch.1 (b.touch.2 ∙ d) (omega (arith, l, b.touch.3)) (touch_at b)

pub cause_unique : CauseUnique
cause_unique p o x y a b = λ j. cause (same_cell j) (same_desk j) (same_transaction j)
  where
    same_cell : x.cell ≡ y.cell
    same_cell = omega (arith, cell_not_lower p o x y a b, cell_not_lower p o y x b a)

    same_desk : x.desk ≡ y.desk
    same_desk = omega (arith, desk_not_lower p o x y (sym same_cell) a b, desk_not_lower p o y x same_cell b a)

    same_transaction : x.transaction ≡ y.transaction
    same_transaction = omega (
      arith,
      transaction_not_lower p o x y (sym same_cell) (sym same_desk) a b,
      transaction_not_lower p o y x same_cell same_desk b a,
    )

pub free_or_local_has_none : FreeOrLocalHasNone
free_or_local_has_none p o s x a = let g = cause_global p o x a in ⊎_elim g.0 g.1 s

-- ---- the lowest transaction of a desk that may touch a cell

module _ (p : Plan) (c d : ℕ) where
  cause_transaction_least : (k : ℕ) → touched_by p k c d ≡ true → cause_transaction p c d ≤ k
  unfolding cause_transaction
  cause_transaction_least k = lowest_below_least (length p.transactions) (λ k. touched_by p k c d) k

  pub cause_transaction_found : touched p c d ≡ true
      → (cause_transaction p c d < length p.transactions) × (touched_by p (cause_transaction p c d) c d ≡ true)
  unfolding cause_transaction
  cause_transaction_found h =
      let i = touched_some p c d h in
      let below : cause_transaction p c d < length p.transactions = omega (arith, i.1, cause_transaction_least i.0 i.2) in
      (below, lowest_below_passes (length p.transactions) (λ k. touched_by p k c d) below)

-- ---- the computed cause

-- the lowest cell that it may write and another desk may touch
abbrev lowest_cell : Plan → Operation → ℕ
lowest_cell p o = cause_cell p (desk_of p o) (write_set p o)

module _ (ws : List ℕ) (e : plan_verdict ws ≡ accepted) (o : Operation) (i : IsOperation (plan_of ws) o) where
  -- an operation of another desk that may touch the cell
  module _ (c : ℕ) (o' : Operation) (i' : IsOperation (plan_of ws) o') (other : OtherDesk (plan_of ws) o o')
      (t : MayTouch (plan_of ws) o' c) where
    low : desk_of (plan_of ws) o' < (plan_of ws).desks
    low = desk_low (plan_of ws) o' (some_desk ws e)

    touches : touched (plan_of ws) c (desk_of (plan_of ws) o') ≡ true
    touches = toucher_found ws e c (desk_of (plan_of ws) o') (o', i', refl, t)

    desk_at_most : cause_desk (desk_mask (plan_of ws) c) (desk_of (plan_of ws) o) ≤ desk_of (plan_of ws) o'
    desk_at_most = cause_desk_least (plan_of ws) c (desk_of (plan_of ws) o) (desk_of (plan_of ws) o') low other touches

    cell_at_most : MayWrite (plan_of ws) o c → lowest_cell (plan_of ws) o ≤ c
    cell_at_most m =
        cause_cell_least (plan_of ws) (desk_of (plan_of ws) o) (write_set (plan_of ws) o) c m
        (touched_has_other (plan_of ws) c (desk_of (plan_of ws) o) (desk_of (plan_of ws) o') low other touches (few_desks ws e))

  cell_low : (c : ℕ) → MayWrite (plan_of ws) o c → c < store_size
  cell_low c m =
      cells_low writes o.params (transaction_of (plan_of ws) o).steps
      (sound_at ws e o.transaction (transaction_below (plan_of ws) o i)).fits (rows_passed (plan_of ws) o i) c m

  -- were there no such cell, it would be local
  global_lowest : Global (plan_of ws) o → lowest_cell (plan_of ws) o < store_size
  global_lowest g =
      by_less (lowest_cell (plan_of ws) o) store_size (λ l. l)
      (λ h. absurd (g.1 (g.0, λ c m o' i' other t. omega (arith, h, cell_low c m, cell_at_most c o' i' other t m))))

  lowest_is_cause : lowest_cell (plan_of ws) o < store_size → IsCause (plan_of ws) o (cause_of (plan_of ws) o)
  lowest_is_cause l =
      let p = plan_of ws in
      let c = lowest_cell p o in
      let found = cause_cell_found p (desk_of p o) (write_set p o) l in
      let d = cause_desk (desk_mask p c) (desk_of p o) in
      let k = cause_transaction_found p c d (cause_desk_touched p c (desk_of p o) found.1) in
      record {
        may_write = found.0;
        other_desk = cause_desk_differs p c (desk_of p o) found.1;
        touch = found_touch ws e c (cause_transaction p c d) d k.0 k.1;
        no_lower_cell = λ c' h m o' i' other t. omega (arith, h, cell_at_most c' o' i' other t m);
        no_lower_desk = λ o' i' other h t. omega (arith, h, desk_at_most c o' i' other t);
        no_lower_transaction = λ o' i' q h t. omega (
          arith,
          h,
          cause_transaction_least p c d o'.transaction
              (subst (λ (x : ℕ). touched_by p o'.transaction c x ≡ true) q (touch_found ws e c o' i' t)),
        );
      }

  has_cause : Global (plan_of ws) o → IsCause (plan_of ws) o (cause_of (plan_of ws) o)
  has_cause g = lowest_is_cause (global_lowest g)

pub global_has_cause : GlobalHasCause
global_has_cause ws e o i = (
  λ g. (cause_of (plan_of ws) o, has_cause ws e o i g),
  λ h. cause_global (plan_of ws) o h.0 h.1,
)

pub cause_means : CauseMeans
cause_means ws e o i x = (
  λ h. subst (IsCause (plan_of ws) o) h.1 (has_cause ws e o i ((class_global ws e o i).0 h.0)),
  λ a. let g = cause_global (plan_of ws) o x a in
      ((class_global ws e o i).1 g, cause_unique (plan_of ws) o _ x (has_cause ws e o i g) a),
)

-- ---- the classifier's answer

module _ (d : ℕ) (x : Cause) where
  answered : (v : Verdict) (y : Classified) → if_accepted v y class_refused ≡ classed_global d x → (v ≡ accepted) × (y ≡ classed_global d x)
  answered accepted y h = (refl, h)
  answered (refused question) y h = ((cc), (cc))

  classed_global_lem : (k : Class) (f : ℕ) (y : Cause) → with_cause k f y ≡ classed_global d x → (k ≡ global) × (f ≡ d) × (y ≡ x)
  classed_global_lem free f y h = ((cc), (cc), (cc))
  classed_global_lem local f y h = ((cc), (cc), (cc))
  classed_global_lem global f y h = (refl, (cc), (cc))

  module _ (ws : List ℕ) (k : ℕ) (ps : List ℕ) where
    answer_gives : length ps ≡ 4 → ((j : ℕ) → get_or ps j 0 < 2 ^ 32) → classify_result ws k ps ≡ classed_global d x
        → (plan_verdict ws ≡ accepted) × IsOperation (plan_of ws) (operation k ps) × Global (plan_of ws) (operation k ps)
        × (desk_of (plan_of ws) (operation k ps) ≡ d) × IsCause (plan_of ws) (operation k ps) x
    unfolding classify_result
    answer_gives four words h =
        let p = plan_of ws in
        let o = operation k ps in
        let v = answered (plan_verdict ws then operation_verdict p o) (classified_by p (transaction_at p k) ps) h in
        let a = then_accepted (plan_verdict ws) (operation_verdict p o) v.0 in
        let i : IsOperation p o = record { four = four; words = words; passes = a.1 } in
        let g = classed_global_lem (class_of p o) (desk_of p o) (cause_of p o) v.1 in
        (a.0, i, (class_global ws a.0 o i).0 g.0, g.1, (cause_means ws a.0 o i x).0 (g.0, g.2))

    gives_answer : plan_verdict ws ≡ accepted → IsOperation (plan_of ws) (operation k ps) → desk_of (plan_of ws) (operation k ps) ≡ d
        → IsCause (plan_of ws) (operation k ps) x → classify_result ws k ps ≡ classed_global d x
    unfolding classify_result
    gives_answer e i q a =
        let m = (cause_means ws e (operation k ps) i x).1 a in
        rw (e, i.passes, m.0) (ap₂ classed_global q m.1)

pub answers_global : AnswersGlobal
answers_global ws k ps four words d x = (
  answer_gives d x ws k ps four words,
  λ h. gives_answer d x ws k ps h.0 h.1 h.3 h.4,
)
