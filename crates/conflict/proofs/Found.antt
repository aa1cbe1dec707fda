-- The cause, part by part: the cell that is found has another desk, and that desk a transaction.
-- Assumes nothing.
use mathlib.Core.Path.{◌≡◌, refl, ◌∙◌, sym, ap, subst}
use mathlib.Core.Bool.{Bool, true, false, cond}
use mathlib.Core.List.{List}
use Prim.Native.Nat.{ℕ, ◌≤◌, ◌<◌}
use native.Mathlib.Omega.{arith}
use lib.Dec.{ltb}
use lib.ListN.{length}
use borrow.Author.Tests.{ltb-true, ltb-false, lt-ltb}
use Rattle.std.proofs.Common.{Some, None}
use Rattle.std.proofs.lemmas.Option.{cond_some, none-some}
use Rattle.plan.specs.Plan.{Plan}
use Rattle.operation.specs.Store.{store_size}
use Rattle.conflict.specs.Touch.{desk_mask}
use Rattle.conflict.specs.Cause.{cause, if_below, cause_desk, has_other, cause_cell, cause_transaction, cause_found}
use Rattle.conflict.proofs.OtherDesks.{cause_cell_found, cause_desk_low, cause_desk_touched}
use Rattle.conflict.proofs.CauseMeaning.{cause_transaction_found}
use Rattle.conflict.proofs.Touching.{few_transactions}
use Rattle.conflict.proofs.Tabled.{mask_tabled}

pub if_below_some : (n v x : ℕ) → if_below n v ≡ Some x → (v < n) × (x ≡ v)
if_below_some n v x e = let f = cond_some (ltb v n) v x e in (ltb-true v n f.0, sym f.1)

pub if_below_none : (n v : ℕ) → if_below n v ≡ None → n ≤ v
if_below_none n v = go (ltb v n) refl
  where
    go : (b : Bool) → ltb v n ≡ b → cond b (Some v) None ≡ None → n ≤ v
    go true i e = absurd (none-some v (sym e))
    go false i e = ltb-false v n i

module _ (p : Plan) (d : ℕ) (cs : List ℕ) (c : ℕ) (h : if_below store_size (cause_cell p d cs) ≡ Some c) where
  pub cell_low : c < store_size
  cell_low = let f = if_below_some store_size (cause_cell p d cs) c h in omega (arith, f)

  cell_has_other : has_other (desk_mask p c) d ≡ true
  cell_has_other =
      let f = if_below_some store_size (cause_cell p d cs) c h in
      subst (λ (x : ℕ). has_other (desk_mask p x) d ≡ true) (sym f.1) (cause_cell_found p d cs f.0).1

  -- its mask, as the table has it
  module _ (m : ℕ) (i : m ≡ desk_mask p c) where
    pub desk_found : if_below 8 (cause_desk m d) ≡ None → ⊥
    unfolding has_other
    desk_found e =
        let g = ltb-true (cause_desk (desk_mask p c) d) 8 cell_has_other in
        let n = if_below_none 8 (cause_desk m d) e in
        omega (arith, g, n, ap (λ (x : ℕ). cause_desk x d) i)

    module _ (o : ℕ) (j : if_below 8 (cause_desk m d) ≡ Some o) where
      desk_is : o ≡ cause_desk (desk_mask p c) d
      desk_is = (if_below_some 8 (cause_desk m d) o j).1 ∙ ap (λ (x : ℕ). cause_desk x d) i

      pub desk_below_desks : o < p.desks
      desk_below_desks = rw desk_is (cause_desk_low p c d cell_has_other)

      pub transaction_found : cause_transaction p c o < length p.transactions
      transaction_found =
          rw desk_is (cause_transaction_found p c (cause_desk (desk_mask p c) d) (cause_desk_touched p c d cell_has_other)).0

      pub transaction_some : if_below (length p.transactions) (cause_transaction p c o) ≡ None → ⊥
      transaction_some e = let n = if_below_none (length p.transactions) (cause_transaction p c o) e in omega (arith, n, transaction_found)

      pub cause_is : (k : ℕ) → if_below (length p.transactions) (cause_transaction p c o) ≡ Some k → Some (cause c o k) ≡ cause_found p d cs
      cause_is k e =
          let f = if_below_some store_size (cause_cell p d cs) c h in
          let g = if_below_some (length p.transactions) (cause_transaction p c o) k e in
          rw (lt-ltb (cause_cell p d cs) store_size f.0, ← f.1, g.1, desk_is)

-- what the search for the cause needs
pub ruleset parts = (
  mask_tabled,
  few_transactions,
  if_below_some,
  cell_low,
  desk_found,
  desk_below_desks,
  transaction_some,
  cause_is,
)
