-- Where a request goes, in terms of its class and desk.
-- Assumes nothing.
use Prim.Native.Nat.{ℕ}
use mathlib.Core.Path.{◌≡◌, refl, sym, ◌∙◌}
use mathlib.Core.Logic.{◌≢◌, inl, inr}
use mathlib.Core.Bool.{Bool, true, false, false≢true}
use lib.Dec.{eqb, eqb→eq}
use Rattle.std.proofs.lemmas.Float.{T_from_true}
use Rattle.std.proofs.lemmas.Bool.{eq-eqb}
use Rattle.serial.specs.System.{Class, free, local, global, System}
use Rattle.serial.specs.Step.{Route, immediate, enqueue, redirect, route_by, route}
use Rattle.serial.proofs.Conflicts.{RunsAt}

module _ (S : System) where
  open S use {Op, desk, class}

  -- at once: free, or local and desk p's. Waiting: global and desk p's. Redirected: another desk's.
  abbrev pub Routed : Route → ℕ → Op → Type 0
  Routed immediate p o = RunsAt S p o
  Routed enqueue p o = (class o ≡ global) × (desk o ≡ p)
  Routed redirect p o = desk o ≢ p

  module _ (p : ℕ) (o : Op) where
    own : eqb (desk o) p ≡ true → desk o ≡ p
    own t = eqb→eq (desk o) p (T_from_true _ t)

    other : eqb (desk o) p ≡ false → desk o ≢ p
    other f e = false≢true (sym f ∙ eq-eqb _ _ e)

    waiting : class o ≡ global → desk o ≡ p → Routed enqueue p o
    waiting e d = (e, d)

    by_class : (c : Class) (b : Bool) → class o ≡ c → eqb (desk o) p ≡ b → Routed (route_by c b) p o
    by_class free b e t = inl e
    by_class local true e t = inr (e, own t)
    by_class local false e t = other t
    by_class global true e t = waiting e (own t)
    by_class global false e t = other t

    pub routed : Routed (route S p o) p o
    routed = by_class (class o) (eqb (desk o) p) refl refl
