-- The cells that an operation names, looked up in the mask table, have the masks of the definition.
-- Assumes nothing.
use mathlib.Core.Path.{◌≡◌, refl, ◌∙◌, sym, ap}
use mathlib.Core.Bool.{Bool, true, false, not, cond, false≢true}
use mathlib.Core.List.{List, ◌∷◌, [], Memᴰ}
use Prim.Native.Nat.{ℕ, ◌<◌, min}
use lib.Count.{ones}
use lib.Dec.{ltb, eqb}
use lib.ListN.{get_or}
use borrow.Author.Tests.{ltb-true}
use Rattle.std.specs.List.{list_any, filter, reduce}
use Rattle.lists.proofs.Laws.{and_snd, all_same, all_member, get_or_tabulate}
use Rattle.plan.specs.Plan.{Access, reads, writes, Step, cell, operand, tells, Transaction, Plan}
use Rattle.plan.specs.Transaction.{the_transaction}
use Rattle.plan.specs.declared.transaction.Transaction as declared
use Rattle.operation.specs.Operation.{cells_named}
use Rattle.operation.specs.Admission.{parameters_pass, unused_zero}
use Rattle.operation.proofs.CellSteps.{cells_in_store}
use Rattle.conflict.specs.Touch.{desk_mask, mask_table}
use Rattle.conflict.specs.Written.{written}
use Rattle.conflict.specs.Class.{one_desk_each, is_write, free, local, global, class_by, is_free, is_global}
use Rattle.conflict.specs.Cause.{if_below, has_other, cause_cell}
use Rattle.conflict.proofs.Lowest.{least_is}

-- the mask of a cell of a store, by the table
pub mask_tabled : (p : Plan) (l : List ℕ) → l ≡ mask_table p → (c : ℕ) → c < 1024 → get_or l c 0 ≡ desk_mask p c
mask_tabled p l e c h = rw e (get_or_tabulate 1024 (desk_mask p) c 0 h)

-- ---- the class of an operation, by what the tests found

module _ (p : Plan) (t : Transaction) (ps : List ℕ) where
  pub writing_not_free : list_any is_write t.steps ≡ true → false ≡ is_free (class_by p t ps)
  unfolding class_by
  writing_not_free w = rw w (neither (one_desk_each (desk_mask p) (cells_named writes ps t.steps)))
    where
      neither : (b : Bool) → false ≡ is_free (cond b local global)
      neither true = refl
      neither false = refl

  pub reading_free : (b : Bool) → list_any is_write t.steps ≡ false → b ≡ list_any (written p) (cells_named reads ps t.steps)
      → not b ≡ is_free (class_by p t ps)
  unfolding class_by
  reading_free true w h = rw (w, ← h)
  reading_free false w h = rw (w, ← h)

  pub reading_not_global : list_any is_write t.steps ≡ false → is_global (class_by p t ps) ≡ false
  unfolding class_by
  reading_not_global w = rw w (neither (list_any (written p) (cells_named reads ps t.steps)))
    where
      neither : (b : Bool) → is_global (cond b local free) ≡ false
      neither true = refl
      neither false = refl

no_cells : (ps : List ℕ) (ss : List Step) → list_any is_write ss ≡ false → cells_named writes ps ss ≡ []
unfolding cells_named
no_cells ps [] e = refl
no_cells ps (cell reads t k r ∷ ss) e = no_cells ps ss e
no_cells ps (cell writes t k r ∷ ss) e = absurd (false≢true (sym e))
no_cells ps (operand f v ∷ ss) e = no_cells ps ss e
no_cells ps (tells ∷ ss) e = no_cells ps ss e

-- ---- an operation of the code

module _ (t : declared.Transaction) (ps : List ℕ) (pass : parameters_pass (the_transaction t) ps ≡ true) where
  pub operation_low : (a : Access) (c : ℕ) → Memᴰ c (cells_named a ps (the_transaction t).steps) → c < 1024
  unfolding parameters_pass
  operation_low a c m =
      let rows = and_snd (unused_zero (the_transaction t).params ps) _ pass in
      ltb-true c 1024
      (all_member (λ x. ltb x 1024) (cells_named a ps (the_transaction t).steps) c (cells_in_store a ps t.step_words.now rows) m)

  module _ (p : Plan) (l : List ℕ) (e : l ≡ mask_table p) where
    one_tabled : one_desk_each (λ c. get_or l c 0) (cells_named writes ps (the_transaction t).steps)
        ≡ one_desk_each (desk_mask p) (cells_named writes ps (the_transaction t).steps)
    one_tabled =
        all_same _ _ (cells_named writes ps (the_transaction t).steps)
        (λ c m. ap (λ (x : ℕ). eqb (ones x) 1) (mask_tabled p l e c (operation_low writes c m)))

    -- one that writes nothing has no cell to be tested
    pub global_tabled : (b : Bool) → b ≡ one_desk_each (λ c. get_or l c 0) (cells_named writes ps (the_transaction t).steps)
        → not b ≡ is_global (class_by p (the_transaction t) ps)
    unfolding class_by
    global_tabled b h = go (list_any is_write (the_transaction t).steps) refl
      where
        writing : (b : Bool) → not b ≡ is_global (cond b local global)
        writing true = refl
        writing false = refl

        go : (w : Bool) → list_any is_write (the_transaction t).steps ≡ w → not b ≡ is_global (class_by p (the_transaction t) ps)
        go true w = rw w (writing b ∙ ap (λ (x : Bool). is_global (cond x local global)) (h ∙ one_tabled))
        go false w =
            ap not (h ∙ ap (one_desk_each (λ c. get_or l c 0)) (no_cells ps (the_transaction t).steps w))
            ∙ sym (reading_not_global p (the_transaction t) ps w)

    pub cause_cell_tabled : (d : ℕ)
        → reduce min (filter (λ c. has_other (get_or l c 0) d) (cells_named writes ps (the_transaction t).steps))
        ≡ if_below 1024 (cause_cell p d (cells_named writes ps (the_transaction t).steps))
    unfolding cause_cell
    cause_cell_tabled d =
        least_is 1024 (λ c. has_other (desk_mask p c) d) (λ c. has_other (get_or l c 0) d) (cells_named writes ps (the_transaction t).steps)
        (operation_low writes) (λ c m. ap (λ (x : ℕ). has_other x d) (mask_tabled p l e c (operation_low writes c m)))
