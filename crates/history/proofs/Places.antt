-- The rule of 01 for the serial order, as specs/Order writes it, against the protocol's places: one goes before another where its place
-- is lower.
-- Assumes nothing.
use Prim.Native.Nat.{ℕ, ◌<◌}
use mathlib.Core.Path.{◌≡◌, refl, sym, ◌∙◌}
use mathlib.Core.Logic.{◌⊎◌, inl, inr}
use mathlib.Core.Bool.{Bool, true, false, cond, false≢true}
use native.Mathlib.Omega.{arith}
use lib.Dec.{ltb, eqb}
use borrow.Author.Tests.{ltb-true, leb-true, eqb-true, lt-ltb, le-leb, eq-eqb, ne_eqb}
use Rattle.std.proofs.lemmas.Bool.{le-ltb}
use Rattle.lists.proofs.Laws.{by_same, by_less}
use Rattle.serial.specs.Order as order
use Rattle.serial.proofs.SerialOrder.{Ranged, place_before_lem, place_same, precedes_once}
use Rattle.history.specs.Order.{Slot, global_run, immediate_run, before}
use Rattle.history.proofs.SerialSeen.{slot_seen}

-- a finished request of which only the slot counts
abbrev finished_at : order.Slot → order.Finished ℕ
finished_at a = record { slot = a; by = 0; request = record { client = 0; op = 0 } }

once : (a b : order.Slot) → order.Before a b → order.Before b a → ⊥
once a b h k = precedes_once (finished_at a) (finished_at b) (inl h) (inl k)

by_order : (g h p q : ℕ) (t : Bool) → eqb g h ≡ t → cond t (ltb p q) (ltb g h) ≡ true → (g < h) ⊎ ((g ≡ h) × (p < q))
by_order g h p q true e k = inr (eqb-true g h e, ltb-true p q k)
by_order g h p q false e k = inl (ltb-true g h k)

before_means : (a b : Slot) → before a b ≡ true → order.Before (slot_seen a) (slot_seen b)
before_means (global_run j) (global_run k) e = ltb-true j k e
before_means (global_run k) (immediate_run g p) e = leb-true k g e
before_means (immediate_run g p) (global_run k) e = ltb-true g k e
before_means (immediate_run g p) (immediate_run h q) e = by_order g h p q (eqb g h) refl e

of_order : (g h p q : ℕ) → (g < h) ⊎ ((g ≡ h) × (p < q)) → cond (eqb g h) (ltb p q) (ltb g h) ≡ true
of_order g h p q (inl l) = rw (ne_eqb g h (omega arith)) (lt-ltb g h l)
of_order g h p q (inr l) = rw (eq-eqb g h l.0) (lt-ltb p q l.1)

pub of_means : (a b : Slot) → order.Before (slot_seen a) (slot_seen b) → before a b ≡ true
of_means (global_run j) (global_run k) h = lt-ltb j k h
of_means (global_run k) (immediate_run g p) h = le-leb k g h
of_means (immediate_run g p) (global_run k) h = lt-ltb g k h
of_means (immediate_run g p) (immediate_run h q) l = of_order g h p q l

module _ (n : ℕ) (a b : Slot) (ra : Ranged n (slot_seen a)) (rb : Ranged n (slot_seen b)) where
  abbrev pub x : ℕ
  x = order.place_of n (slot_seen a)

  abbrev pub y : ℕ
  y = order.place_of n (slot_seen b)

  before_low : order.Before (slot_seen a) (slot_seen b) → x < y
  before_low h =
      by_less x y (λ l. l)
      (λ l. by_same x y
      (λ e. let s : slot_seen a ≡ slot_seen b = place_same n (slot_seen a) (slot_seen b) ra rb e in
      let k : order.Before (slot_seen b) (slot_seen b) = rw s at h in absurd (once (slot_seen b) (slot_seen b) k k))
      (λ e. absurd (once (slot_seen a) (slot_seen b) h (place_before_lem n (slot_seen b) (slot_seen a) rb ra (omega arith)))))

  -- one goes before another where its place is lower
  pub before_is : ltb x y ≡ before a b
  before_is = go (before a b) refl
    where
      go : (t : Bool) → before a b ≡ t → ltb x y ≡ t
      go true e = lt-ltb _ _ (before_low (before_means a b e))
      go false e =
          le-ltb _ _ (by_less x y (λ l. absurd (false≢true (sym e ∙ of_means a b (place_before_lem n (slot_seen a) (slot_seen b) ra rb l))))
          (λ l. l))
