-- The computed class is free, local or global exactly as 01 defines them over all operations.
-- Assumes nothing.
use mathlib.Core.Path.{◌≡◌, refl, ◌∙◌, sym, subst}
use mathlib.Core.Bool.{Bool, true, false, cond, false≢true}
use mathlib.Core.List.{List, Memᴰ}
use mathlib.Core.Logic.{inl, inr, ⊎_elim}
use Prim.Native.Nat.{ℕ}
use native.Mathlib.Omega.{arith}
use lib.Count.{ones}
use lib.Dec.{eqb}
use borrow.Author.Tests.{eq-eqb, eqb-true}
use Rattle.verdict.specs.Verdict.{accepted}
use Rattle.lists.proofs.Laws.{all_member, member_all, member_any, any_member, by_same}
use Rattle.std.specs.List.{list_any}
use Rattle.plan.specs.Plan.{Source, reads, writes, Step, cell, operand, tells, Plan}
use Rattle.plan.specs.Decode.{plan_of}
use Rattle.plan.specs.Admission.{plan_verdict}
use Rattle.operation.specs.Operation.{Operation, transaction_of, desk_of, read_set, write_set, MayRead, MayWrite, MayTouch}
use Rattle.operation.specs.Admission.{IsOperation}
use Rattle.operation.proofs.NamedCells.{names_of, of_names}
use Rattle.conflict.specs.Touch.{desk_mask}
use Rattle.conflict.specs.Written.{written}
use Rattle.conflict.specs.Class.{OtherDesk, Free, Local, Global, Class, free, local, global, is_write, one_desk_each, class_by, class_of}
use Rattle.conflict.specs.Classification.{FreeMeans, LocalMeans, GlobalMeans, LocalByConflicts, OneDeskNoGlobal}
use Rattle.conflict.proofs.MaskMeaning.{desk_low, one_desk}
use Rattle.conflict.proofs.WrittenMeaning.{written_gives, gives_written}
use Rattle.conflict.proofs.Touching.{some_desk}

-- ---- a write step and a written cell

write_shape : (s : Step) → is_write s ≡ true → (t : ℕ) × (k : ℕ) × (r : Source) × (s ≡ cell writes t k r)
write_shape (cell reads t k r) e = absurd (false≢true e)
write_shape (cell writes t k r) e = (t, k, r, refl)
write_shape (operand f v) e = absurd (false≢true e)
write_shape tells e = absurd (false≢true e)

module _ (p : Plan) (o : Operation) where
  writes_some : list_any is_write (transaction_of p o).steps ≡ true → (c : ℕ) × MayWrite p o c
  writes_some e =
      let m = any_member is_write (transaction_of p o).steps e in
      let w = write_shape m.0 m.2 in (
        _,
        of_names writes o.params (transaction_of p o).steps w.0 w.1 w.2
            (subst (λ (s : Step). Memᴰ s (transaction_of p o).steps) w.3 m.1),
      )

  writes_none : list_any is_write (transaction_of p o).steps ≡ false → (c : ℕ) → MayWrite p o c → ⊥
  writes_none e c m =
      let n = names_of writes o.params (transaction_of p o).steps c m in
      false≢true (sym e ∙ member_any is_write _ (transaction_of p o).steps n.step refl)

module _ (ws : List ℕ) (e : plan_verdict ws ≡ accepted) (o : Operation) (i : IsOperation (plan_of ws) o) where
  -- no operation may write a cell that it may read
  abbrev Unwritten : Type 0
  Unwritten = (c : ℕ) → MayRead (plan_of ws) o c → (o' : Operation) → IsOperation (plan_of ws) o' → MayWrite (plan_of ws) o' c → ⊥

  -- no operation of another desk may touch a cell that it may write
  abbrev NoOtherTouches : Type 0
  NoOtherTouches =
      (c : ℕ) → MayWrite (plan_of ws) o c → (o' : Operation) → IsOperation (plan_of ws) o' → OtherDesk (plan_of ws) o o'
      → MayTouch (plan_of ws) o' c → ⊥

  -- ---- the two computed tests

  unwritten : list_any (written (plan_of ws)) (read_set (plan_of ws) o) ≡ false → Unwritten
  unwritten h c m o' i' w =
      false≢true (sym h ∙ member_any (written (plan_of ws)) c (read_set (plan_of ws) o) m (gives_written ws e c (o', i', w)))

  of_unwritten : Unwritten → list_any (written (plan_of ws)) (read_set (plan_of ws) o) ≡ true → ⊥
  of_unwritten h r =
      let m = any_member (written (plan_of ws)) (read_set (plan_of ws) o) r in
      let w = written_gives ws e m.0 m.2 in h m.0 m.1 w.0 w.1 w.2

  one_desk_no_other : one_desk_each (desk_mask (plan_of ws)) (write_set (plan_of ws) o) ≡ true → NoOtherTouches
  one_desk_no_other h c m o' i' other t =
      let k = (one_desk ws e c).0 (eqb-true _ _ (all_member (λ c. eqb (ones (desk_mask (plan_of ws) c)) 1)
      (write_set (plan_of ws) o) c h m)) in
      other (k.1.1 o' i' t ∙ sym (k.1.1 o i (inr m)))

  no_other_one_desk : NoOtherTouches → one_desk_each (desk_mask (plan_of ws)) (write_set (plan_of ws) o) ≡ true
  no_other_one_desk h =
      member_all (λ c. eqb (ones (desk_mask (plan_of ws) c)) 1) (write_set (plan_of ws) o)
      (λ c m. eq-eqb _ _ ((one_desk ws e c).1 (
        desk_of (plan_of ws) o,
        ((o, i, refl, inr m), λ o' i' t. by_same _ _ (λ q. q) (λ q. absurd (h c m o' i' q t))),
      )))

  -- ---- what the class means

  abbrev Means : Class → Type 0
  Means free = Free (plan_of ws) o
  Means local = Local (plan_of ws) o
  Means global = Global (plan_of ws) o

  pub class_means : Means (class_of (plan_of ws) o)
  unfolding class_by
  class_means =
      go (list_any is_write (transaction_of (plan_of ws) o).steps) (one_desk_each (desk_mask (plan_of ws)) (write_set (plan_of ws) o))
      (list_any (written (plan_of ws)) (read_set (plan_of ws) o)) refl refl refl
    where
      go : (w a q : Bool) → list_any is_write (transaction_of (plan_of ws) o).steps ≡ w
          → one_desk_each (desk_mask (plan_of ws)) (write_set (plan_of ws) o) ≡ a
          → list_any (written (plan_of ws)) (read_set (plan_of ws) o) ≡ q → Means (cond w (cond a local global) (cond q local free))
      go true true q ew ea eq = (λ f. f.0 (writes_some (plan_of ws) o ew).0 (writes_some (plan_of ws) o ew).1, one_desk_no_other ea)
      go true false q ew ea eq = (
        λ f. f.0 (writes_some (plan_of ws) o ew).0 (writes_some (plan_of ws) o ew).1,
        λ l. false≢true (sym ea ∙ no_other_one_desk l.1),
      )
      go false a false ew ea eq = (writes_none (plan_of ws) o ew, unwritten eq)
      go false a true ew ea eq = (λ f. of_unwritten f.1 eq, λ c m. absurd (writes_none (plan_of ws) o ew c m))

  -- the three exclude each other
  only_free : (k : Class) → Means k → Free (plan_of ws) o → k ≡ free
  only_free free m f = refl
  only_free local m f = absurd (m.0 f)
  only_free global m f = absurd (m.0 f)

  only_local : (k : Class) → Means k → Local (plan_of ws) o → k ≡ local
  only_local free m l = absurd (l.0 m)
  only_local local m l = refl
  only_local global m l = absurd (m.1 l)

  only_global : (k : Class) → Means k → Global (plan_of ws) o → k ≡ global
  only_global free m g = absurd (g.0 m)
  only_global local m g = absurd (g.1 m)
  only_global global m g = refl

-- ---- the theorem

pub class_free : FreeMeans
class_free ws e o i = (λ q. subst (Means ws e o i) q (class_means ws e o i), only_free ws e o i _ (class_means ws e o i))

pub class_local : LocalMeans
class_local ws e o i = (λ q. subst (Means ws e o i) q (class_means ws e o i), only_local ws e o i _ (class_means ws e o i))

pub class_global : GlobalMeans
class_global ws e o i = (λ q. subst (Means ws e o i) q (class_means ws e o i), only_global ws e o i _ (class_means ws e o i))

pub local_by_conflicts : LocalByConflicts
local_by_conflicts p o = (
  λ l. (l.0, λ o' i d. (λ w. l.1 w.0 w.1 o' i d (inr w.2), λ r. l.1 r.0 r.2 o' i d (inl r.1))),
  λ l. (
    l.0,
    λ c m o' i d t.
        ⊎_elim (λ (r : MayRead p o' c). (l.1 o' i d).1 (c, r, m)) (λ (w : MayWrite p o' c). (l.1 o' i d).0 (c, m, w)) t,
  ),
)

-- "With one desk nothing is global."
pub one_desk_no_global : OneDeskNoGlobal
one_desk_no_global ws e n o g =
    g.1 (
      g.0,
      λ c m o' i other t. other (omega (
        arith,
        desk_low (plan_of ws) o (some_desk ws e),
        desk_low (plan_of ws) o'
            (some_desk ws e),
      )),
    )
