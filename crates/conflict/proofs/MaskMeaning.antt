-- The masks of an accepted plan, over all operations: whose operations may touch a cell, and whether just one desk's may.
-- Assumes nothing.
use mathlib.Core.Path.{◌≡◌, refl, ◌∙◌, sym, subst}
use mathlib.Core.Bool.{true}
use mathlib.Core.List.{List, Memᴰ}
use mathlib.Core.Logic.{inl, inr, ⊎_elim, ◌↔◌}
use Prim.Native.Nat.{ℕ, ◌≤◌, ◌<◌}
use native.Mathlib.Nat.{mod-lt}
use lib.Count.{ones}
use lib.ListN.{length, get_or}
use Rattle.verdict.specs.Verdict.{accepted}
use Rattle.plan.specs.Plan.{Access, reads, writes, Partitioning, by_param, unpartitioned, undecided, Plan}
use Rattle.plan.specs.Decode.{plan_of}
use Rattle.plan.specs.Admission.{plan_verdict}
use Rattle.operation.specs.Operation.{Operation, transaction_of, desk_by, desk_of, cells_named, MayRead, MayWrite, MayTouch}
use Rattle.operation.specs.Admission.{IsOperation}
use Rattle.conflict.specs.Mask.{in_mask}
use Rattle.conflict.specs.Touch.{desk_mask}
use Rattle.conflict.specs.Class.{JustOne}
use Rattle.conflict.specs.Cause.{TouchedBy}
use Rattle.conflict.specs.Meaning.{Toucher, MaskHasToucher, OneDeskMask}
use Rattle.conflict.proofs.Masks.{in_mask_of}
use Rattle.conflict.proofs.Ones.{ones_mask, one_of_count, count_of_one}
use Rattle.conflict.proofs.Touching.{Accesses, touched, touched_by, some_desk}
use Rattle.conflict.proofs.Touching.{touched_by_gives, gives_touched_by, touched_gives, gives_touched}

-- ---- an operation that touches

module _ (p : Plan) (d c : ℕ) where
  touch_by : (o : Operation) (a : Access) → Memᴰ c (cells_named a o.params (transaction_of p o).steps) → MayTouch p o c
  touch_by o reads m = inl m
  touch_by o writes m = inr m

  toucher_of : (a : Access) → Accesses a p d c → Toucher p d c
  toucher_of k a = (a.op, a.is, a.desk, touch_by a.op k a.names)

  of_toucher : Toucher p d c → (a : Access) × Accesses a p d c
  of_toucher t =
      ⊎_elim (λ (m : MayRead p t.0 c). (reads, record { op = t.0; is = t.1; desk = t.2; names = m }))
      (λ (m : MayWrite p t.0 c). (writes, record { op = t.0; is = t.1; desk = t.2; names = m })) t.3

-- an operation's desk is below the number of desks
pub desk_by_low : (n : ℕ) (q : Partitioning) (ps : List ℕ) → 1 ≤ n → desk_by n q ps < n
desk_by_low n (by_param q) ps h = mod-lt (get_or ps q 0) h
desk_by_low n unpartitioned ps h = h
desk_by_low n undecided ps h = h

pub desk_low : (p : Plan) (o : Operation) → 1 ≤ p.desks → desk_of p o < p.desks
desk_low p o h = desk_by_low p.desks (transaction_of p o).part o.params h

module _ (ws : List ℕ) (e : plan_verdict ws ≡ accepted) (c : ℕ) where
  pub found_toucher : (d : ℕ) → touched (plan_of ws) c d ≡ true → Toucher (plan_of ws) d c
  found_toucher d h = let a = touched_gives ws e d c h in toucher_of (plan_of ws) d c a.0 a.1

  pub toucher_found : (d : ℕ) → Toucher (plan_of ws) d c → touched (plan_of ws) c d ≡ true
  toucher_found d t = let a = of_toucher (plan_of ws) d c t in gives_touched ws e d c a.0 a.1

  -- transaction by transaction
  pub found_touch : (k d : ℕ) → k < length (plan_of ws).transactions → touched_by (plan_of ws) k c d ≡ true
      → TouchedBy (plan_of ws) k d c
  found_touch k d below h =
      let x = touched_by_gives ws e d c k below h in
      (x.1.op, x.1.is, x.1.desk, x.2, touch_by (plan_of ws) d c x.1.op x.0 x.1.names)

  pub touch_found : (o : Operation) → IsOperation (plan_of ws) o → MayTouch (plan_of ws) o c
      → touched_by (plan_of ws) o.transaction c (desk_of (plan_of ws) o) ≡ true
  touch_found o i t =
      ⊎_elim
      (λ (m : MayRead (plan_of ws) o c). gives_touched_by ws e _ c reads (record { op = o; is = i; desk = refl; names = m }))
      (λ (m : MayWrite (plan_of ws) o c). gives_touched_by ws e _ c writes (record { op = o; is = i; desk = refl; names = m })) t

  -- the mask has desk d exactly if some operation of desk d may touch the cell
  has_toucher : (d : ℕ) → d < (plan_of ws).desks → (in_mask (desk_mask (plan_of ws) c) d ≡ true) ↔ Toucher (plan_of ws) d c
  unfolding desk_mask
  has_toucher d h =
      let b = in_mask_of (plan_of ws).desks (touched (plan_of ws) c) d h in
      (λ m. found_toucher d (sym b ∙ m), λ t. b ∙ toucher_found d t)

  -- one 1 in the mask exactly if just one desk may touch the cell
  pub one_desk : (ones (desk_mask (plan_of ws) c) ≡ 1) ↔ ((d : ℕ) × JustOne (plan_of ws) c d)
  unfolding desk_mask
  one_desk =
      let p = plan_of ws in
      let n = ones_mask p.desks (touched p c) in (
        λ o. let k = one_of_count p.desks (touched p c) (sym n ∙ o) in (
          k.0,
          (
            found_toucher k.0 k.2,
            λ o' i m. k.3 (desk_of p o') (desk_low p o' (some_desk ws e)) (toucher_found (desk_of p o') (o', i, refl, m)),
          ),
        ),
        λ j. let t = j.1.0 in
            let below : j.0 < p.desks = subst (λ (x : ℕ). x < p.desks) t.2 (desk_low p t.0 (some_desk ws e)) in
            n ∙ count_of_one p.desks (touched p c) (
              j.0,
              below,
              toucher_found j.0 t,
              λ d l h. let u = found_toucher d h in sym u.2 ∙ j.1.1 u.0 u.1 u.3,
            ),
      )

pub mask_has_toucher : MaskHasToucher
mask_has_toucher = has_toucher

pub one_desk_mask : OneDeskMask
one_desk_mask = one_desk
