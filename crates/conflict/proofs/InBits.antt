-- The fields of steps that words stand for keep within their bits.
-- Assumes nothing.
use mathlib.Core.Path.{◌≡◌, subst}
use mathlib.Core.List.Memᴰ
use mathlib.Core.List.{List, [], ◌∷◌, map}
use Prim.Native.Nat.{ℕ}
use Rattle.plan.specs.Plan.{param, fixed, Step, cell, operand, tells}
use Rattle.plan.specs.Decode.{step_of}
use Rattle.operation.proofs.Bounds.{FieldsFit, AllFit, decoded_fits}
use Rattle.conflict.specs.Touch.{InBits}

fits : (s : Step) → FieldsFit s → InBits s
fits (cell a t k (param i)) f = f
fits (cell a t k (fixed v)) f = (f.0, f.1)
fits (operand f v) h = tt
fits tells h = tt

-- the first of the steps that words stand for
pub first_in_bits : (ws : List ℕ) (s : Step) (ss : List Step) → map step_of ws ≡ s ∷ ss → InBits s
first_in_bits [] s ss e = absurd (cc)
first_in_bits (w ∷ ws) s ss e = subst InBits (cc) (fits (step_of w) (decoded_fits w))

pub steps_fit : (ws : List ℕ) → AllFit (map step_of ws)
steps_fit ws s m = let w = Memᴰ.of_map step_of ws m in subst FieldsFit w.2 (decoded_fits w.0)
