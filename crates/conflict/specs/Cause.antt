-- The cause of a wait (02, A.7): "give for a global operation the lowest cell it may write that another desk may touch, then the lowest
-- such desk, then the lowest transaction of that desk with such an operation. Free and local operations carry none."
--     cause                  its three numbers, as the code's struct `Cause` holds them
--     TouchedBy, IsCause     these are the cause, over all operations: "each named touch real and each lower one absent"
--     if_below               a number that stands for none from a bound on
--     cause_of               the cause, computed
--     cause_found            the same, with none where no cell has another desk
--     CauseMeans             an operation is global with this computed cause exactly if this is its cause
--     GlobalHasCause         an operation is global exactly if it has a cause
--     FreeOrLocalHasNone     a free or local one has none
--     CauseUnique            no operation has two
use Rattle.std.specs.Prelude.{ℕ, ◌<◌, ◌≡◌, Bool, not, ◌&&◌, cond, List, Option, Some, None, option_map, ◌↔◌, ◌⊎◌, ltb, eqb, length}
use Rattle.verdict.specs.Verdict.{accepted}
use Rattle.std.specs.List.{list_any}
use Rattle.lists.specs.Lists.{lowest_below}
use Rattle.plan.specs.Plan.{writes, Transaction, Plan, transaction_at}
use Rattle.plan.specs.Decode.{plan_of}
use Rattle.plan.specs.Admission.{plan_verdict}
use Rattle.operation.specs.Operation.{Operation, transaction_of, desk_by, desk_of, cells_named, MayWrite, MayTouch}
use Rattle.operation.specs.Admission.{IsOperation}
use Rattle.operation.specs.Store.{store_size}
use Rattle.conflict.specs.declared.cause.Cause.{Cause}
use Rattle.conflict.specs.Mask.{in_mask}
use Rattle.conflict.specs.Touch.{steps_touch, desk_mask}
use Rattle.conflict.specs.Class.{OtherDesk, Free, Local, Global, global, class_of}

abbrev pub cause : ℕ → ℕ → ℕ → Cause
cause c d k = record { cell = c; desk = d; transaction = k }

-- ---- over all operations

-- one and the same operation is of desk d and of transaction k, and may touch the cell
abbrev pub TouchedBy : Plan → ℕ → ℕ → ℕ → Type 0
TouchedBy p k d c = (o : Operation) × IsOperation p o × (desk_of p o ≡ d) × (o.transaction ≡ k) × MayTouch p o c

pub record IsCause (p : Plan) (o : Operation) (x : Cause) : Type 0 where
  -- the named touch is real: the operation may write the cell, and an operation of that other desk and of that transaction may touch it
  pub may_write : MayWrite p o x.cell
  pub other_desk : x.desk ≡ desk_of p o → ⊥
  pub touch : TouchedBy p x.transaction x.desk x.cell
  -- each lower one is absent
  pub no_lower_cell : (c : ℕ) → c < x.cell → MayWrite p o c → (o' : Operation) → IsOperation p o' → OtherDesk p o o' → MayTouch p o' c → ⊥
  pub no_lower_desk : (o' : Operation) → IsOperation p o' → OtherDesk p o o' → desk_of p o' < x.desk → MayTouch p o' x.cell → ⊥
  pub no_lower_transaction : (o' : Operation) → IsOperation p o' → desk_of p o' ≡ x.desk → o'.transaction < x.transaction
      → MayTouch p o' x.cell → ⊥

-- ---- computed

-- v, if it is below n: n stands for none
abbrev pub if_below : ℕ → ℕ → Option ℕ
if_below n v = cond (ltb v n) (Some v) None

-- desk e is in the mask and is another than d
unfoldable pub is_other : ℕ → ℕ → ℕ → Bool
is_other mask d e = not (eqb e d) && in_mask mask e

-- the lowest desk in the mask but d; 8 if it has no other
unfoldable pub cause_desk : ℕ → ℕ → ℕ
cause_desk mask d = lowest_below 8 (is_other mask d)

-- a desk other than d may touch the cell, by its mask
unfoldable pub has_other : ℕ → ℕ → Bool
has_other mask d = ltb (cause_desk mask d) 8

-- the lowest of these cells that a desk other than d may touch; 1,024 if there is none
unfoldable pub cause_cell : Plan → ℕ → List ℕ → ℕ
cause_cell p d cs = lowest_below store_size (λ c. list_any (eqb c) cs && has_other (desk_mask p c) d)

-- the lowest transaction with an operation of desk d that may touch the cell; the number of transactions if there is none
unfoldable pub cause_transaction : Plan → ℕ → ℕ → ℕ
cause_transaction p c d =
    lowest_below (length p.transactions) (λ k. steps_touch p.desks (transaction_at p k).part (transaction_at p k).steps c d)

-- the cause by its cell, of an operation of desk d
abbrev pub cause_at : Plan → ℕ → ℕ → Cause
cause_at p d c = cause c (cause_desk (desk_mask p c) d) (cause_transaction p c (cause_desk (desk_mask p c) d))

-- the cause of an operation of desk d that may write these cells, if it has one
abbrev pub cause_found : Plan → ℕ → List ℕ → Option Cause
cause_found p d cs = option_map (cause_at p d) (if_below store_size (cause_cell p d cs))

abbrev pub cause_by : Plan → Transaction → List ℕ → Cause
cause_by p t ps = cause_at p (desk_by p.desks t.part ps) (cause_cell p (desk_by p.desks t.part ps) (cells_named writes ps t.steps))

abbrev pub cause_of : Plan → Operation → Cause
cause_of p o = cause_by p (transaction_of p o) o.params

-- ---- what the computed cause says, of an accepted plan

abbrev pub CauseMeans : Type 0
CauseMeans = (ws : List ℕ) → plan_verdict ws ≡ accepted → (o : Operation) → IsOperation (plan_of ws) o → (x : Cause)
    → ((class_of (plan_of ws) o ≡ global) × (cause_of (plan_of ws) o ≡ x)) ↔ IsCause (plan_of ws) o x

abbrev pub GlobalHasCause : Type 0
GlobalHasCause = (ws : List ℕ) → plan_verdict ws ≡ accepted → (o : Operation) → IsOperation (plan_of ws) o
    → Global (plan_of ws) o ↔ ((x : Cause) × IsCause (plan_of ws) o x)

-- "Free and local operations carry none."
abbrev pub FreeOrLocalHasNone : Type 0
FreeOrLocalHasNone = (p : Plan) (o : Operation) → Free p o ⊎ Local p o → (x : Cause) → IsCause p o x → ⊥

abbrev pub CauseUnique : Type 0
CauseUnique = (p : Plan) (o : Operation) (x y : Cause) → IsCause p o x → IsCause p o y → x ≡ y
