-- Which cells a desk hears of, which it alone writes, and what the classes say of an operation that runs here or elsewhere.
-- Assumes nothing.
use Prim.Native.Nat.{ℕ, ◌<◌}
use mathlib.Core.Path.{◌≡◌, refl, sym, ◌∙◌}
use mathlib.Core.Logic.{◌≢◌, ◌⊎◌, inl, inr}
use Rattle.serial.specs.Store.{Update, Within}
use Rattle.serial.specs.Desk.{Request}
use Rattle.serial.specs.System.{free, local, System, Laws, Touches}
use Rattle.serial.specs.Order.{Finished}
use Rattle.serial.specs.Hearing.{OwnCell, Hears}

module _ (S : System) where
  open S use {n, Op, desk, class, Reads, Writes}

  -- it runs at desk p at once
  abbrev pub RunsAt : ℕ → Op → Type 0
  RunsAt p o = (class o ≡ free) ⊎ ((class o ≡ local) × (desk o ≡ p))

  -- it runs at once, and not at desk p unless it is free
  abbrev pub RunsElsewhere : ℕ → Op → Type 0
  RunsElsewhere p o = (class o ≡ free) ⊎ ((class o ≡ local) × (desk o ≢ p))

  -- it is free, or another desk's
  abbrev pub NotOf : ℕ → Op → Type 0
  NotOf p o = (class o ≡ free) ⊎ (desk o ≢ p)

  -- the same of a finished operation
  abbrev pub BesideOf : ℕ → Finished Op → Type 0
  BesideOf p e = RunsElsewhere p e.request.op

  abbrev pub BehindOf : ℕ → Finished Op → Type 0
  BehindOf p e = NotOf p e.request.op

  -- it may write no cell of P
  abbrev pub Leaves : (ℕ → Type 0) → Finished Op → Type 0
  Leaves P e = (c : ℕ) → P c → Writes e.request.op c → ⊥

  -- it reads cells of P only
  abbrev pub ReadsIn : (ℕ → Type 0) → Request Op → Type 0
  ReadsIn P t = (c : ℕ) → Reads t.op c → P c

  -- its operation is desk p's
  abbrev pub OfDesk : ℕ → Request Op → Type 0
  OfDesk p t = desk t.op ≡ p

  -- some operation of desk p may write c
  abbrev pub OutCell : ℕ → ℕ → Type 0
  OutCell p c = (o : Op) × (desk o ≡ p) × Writes o c

  -- an update of the token is some desk's, and writes what operations of that desk may write
  abbrev pub Tagged : ℕ × Update → Type 0
  Tagged u = (u.0 < n) × Within (OutCell u.0) u.1

module _ (S : System) (L : Laws S) where
  open S use {Op, desk, class, Writes}

  -- ---- an operation that runs at desk p touches cells that p hears of

  pub free_hears : (p : ℕ) (o : Op) (c : ℕ) → class o ≡ free → Touches S o c → Hears S p c
  free_hears p o c f (inl h) r ne w = L.free_reads o f c h w.0 w.3
  free_hears p o c f (inr h) r ne w = L.free_writes o f c h

  pub desk_hears : (p : ℕ) (o : Op) (c : ℕ) → desk o ≡ p → Touches S o c → Hears S p c
  desk_hears p o c d h r ne w = ne (sym w.2 ∙ sym (L.local_alone w.0 w.1 c w.3 o h) ∙ d)

  pub at_hears : (p : ℕ) (o : Op) (c : ℕ) → RunsAt S p o → Touches S o c → Hears S p c
  at_hears p o c (inl f) h = free_hears p o c f h
  at_hears p o c (inr l) h = desk_hears p o c l.1 h

  -- ---- what runs at desk p at once writes its own cells; nothing of another desk's touches these; and nothing that runs at once
  -- elsewhere
  -- writes what p hears of

  pub at_own : (p : ℕ) (o : Op) (c : ℕ) → RunsAt S p o → Writes o c → OwnCell S p c
  at_own p o c (inl f) h = absurd (L.free_writes o f c h)
  at_own p o c (inr l) h = (o, l.0, l.1, h)

  pub not_own : (p : ℕ) (o : Op) → NotOf S p o → (c : ℕ) → OwnCell S p c → Touches S o c → ⊥
  not_own p o (inl f) c w (inl h) = L.free_reads o f c h w.0 w.3
  not_own p o (inl f) c w (inr h) = L.free_writes o f c h
  not_own p o (inr d) c w h = d (L.local_alone w.0 w.1 c w.3 o h ∙ w.2)

  pub elsewhere_off : (p : ℕ) (o : Op) → RunsElsewhere S p o → (c : ℕ) → Hears S p c → Writes o c → ⊥
  elsewhere_off p o (inl f) c k h = L.free_writes o f c h
  elsewhere_off p o (inr l) c k h = k (desk o) l.1 (o, l.0, refl, h)
