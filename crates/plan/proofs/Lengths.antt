-- A well-formed plan is no longer than question 1 allows.
-- Assumes nothing.
use mathlib.Core.Path.{◌≡◌}
use mathlib.Core.Bool.{true, false≢true}
use mathlib.Core.List.{List, [], ◌∷◌}
use Prim.Native.Nat.{ℕ, zero, suc, ◌*◌, ◌≤◌}
use native.Mathlib.Omega.{arith}
use lib.ListN.{length, drop, length-drop}
use Rattle.word.specs.Field.{step_count}
use Rattle.plan.specs.Admission.{well_formed, WellFormedFits}
use Rattle.plan.proofs.Words.{transaction_steps}
use Rattle.plan.proofs.FormedParts.{formed_parts}

-- a transaction has at most 13 words
formed_length : (n : ℕ) (ws : List ℕ) → well_formed n ws ≡ true → length ws ≤ n * 13
unfolding well_formed
formed_length zero [] e = omega arith
formed_length zero (w ∷ ws) e = absurd (false≢true e)
formed_length (suc n) [] e = absurd (false≢true e)
formed_length (suc n) (w ∷ ws) e =
    let p = formed_parts n w ws e in
    let rest = formed_length n (drop (step_count w) ws) p.rest in
    omega (arith, transaction_steps w p.form, rest, length-drop (step_count w) ws)

pub well_formed_fits : WellFormedFits
well_formed_fits n ws h e = let l = formed_length n ws e in omega arith
