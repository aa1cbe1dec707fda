-- The cells that a desk hears of, and the updates that it is still owed: what the theorems on a desk's store speak of.
use Rattle.std.specs.Prelude.{ℕ, ◌≡◌, ◌≢◌, cond, List, [], ◌∷◌, ltb}
use Rattle.serial.specs.Store.{Update}
use Rattle.serial.specs.System.{local, System}

module _ (S : System) where
  open S use {Op, desk, class, Writes}

  -- some local operation of desk p may write c: its value elsewhere may be old
  abbrev pub OwnCell : ℕ → ℕ → Type 0
  OwnCell p c = (o : Op) × (class o ≡ local) × (desk o ≡ p) × Writes o c

  -- no local operation of another desk than p may write c: every change of c comes to p by the token, or is p's own
  abbrev pub Hears : ℕ → ℕ → Type 0
  Hears p c = (r : ℕ) → r ≢ p → OwnCell r c → ⊥

-- what desk p is owed by the latest frame: the updates of desks whose visit comes after its own next one. awaited gives the number
-- that each desk awaits.
abbrev pub owed : (ℕ → ℕ) → ℕ → List (ℕ × Update) → List Update
owed awaited p [] = []
owed awaited p (u ∷ us) = cond (ltb (awaited p) (awaited u.0)) (u.1 ∷ owed awaited p us) (owed awaited p us)
