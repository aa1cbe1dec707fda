-- The steps of a transaction that stands in the words, one after another.
-- Assumes nothing.
use mathlib.Core.Path.{◌≡◌, ◌∙◌, sym, ap, refl}
use mathlib.Core.Bool.{Bool, true}
use mathlib.Core.List.{List, [], ◌∷◌, map}
use Prim.Native.Nat.{ℕ, zero, suc, ◌+◌, ◌-◌, ◌≤◌, ◌<◌}
use native.Mathlib.Nat.{sub-zero, add-zero}
use native.Mathlib.Numerals.{add-one}
use native.Mathlib.Omega.{arith}
use lib.ListN.{length, take, drop, length-drop}
use lib.Seq.{drop-cons, get_or-drop, get_or-take, length-take-le}
use Rattle.std.specs.List.{list_all}
use Rattle.lists.proofs.Laws.{and_fst, and_snd, left_suc, all_index}
use Rattle.plan.specs.Plan.{Step}
use Rattle.plan.specs.Decode.{step_of}
use Rattle.plan.specs.Admission.{step_formed}
use Rattle.plan.specs.Place.{transaction_from, StandsAt, steps_at, step_word}

-- the steps from step s on, of the transaction at `at`
pub steps_from : List ℕ → ℕ → ℕ → List Step
steps_from ws at s = map step_of (take (steps_at ws at - s) (drop (at + 1 + s) ws))

pub steps_all : (ws : List ℕ) (at : ℕ) → steps_from ws at 0 ≡ (transaction_from ws at).steps
unfolding steps_from
steps_all ws at = rw (sub-zero, add-zero)

pub steps_none : (ws : List ℕ) (at s : ℕ) → steps_at ws at ≤ s → steps_from ws at s ≡ []
unfolding steps_from
steps_none ws at s h = let e : steps_at ws at - s ≡ 0 = omega arith in rw e

-- the word w of step s
module _ (ws : List ℕ) (at s : ℕ) (p : StandsAt ws at) (h : s < steps_at ws at) (w : ℕ) (e : w ≡ step_word ws at s) where
  pub steps_cons : steps_from ws at s ≡ step_of w ∷ steps_from ws at (s + 1)
  unfolding steps_from
  steps_cons =
      let n : at + 1 + (s + 1) ≡ suc (at + 1 + s) = omega arith in
      rw (left_suc (steps_at ws at) s h, drop-cons ws (at + 1 + s) 0 (omega (arith, p.room)), n, e)

  pub step_formed_lem : step_formed w ≡ true
  step_formed_lem =
      let l : length (take (steps_at ws at) (drop (at + 1) ws)) ≡ steps_at ws at = length-take-le (steps_at ws at) (drop (at + 1) ws)
      (omega (arith, p.room, length-drop (at + 1) ws)) in
      let k : s < length (take (steps_at ws at) (drop (at + 1) ws)) = omega (arith, l) in
      rw e (rw (get_or-take (steps_at ws at) (drop (at + 1) ws) s 0 h, get_or-drop (at + 1) ws s 0) at
      (all_index step_formed (take (steps_at ws at) (drop (at + 1) ws)) s 0 p.steps k))

-- what holds of every step holds of each, as the walk meets it
module _ (f : Step → Bool) (ws : List ℕ) (at : ℕ) (p : StandsAt ws at) (e : list_all f (transaction_from ws at).steps ≡ true) where
  every_from : (s : ℕ) → s ≤ steps_at ws at → list_all f (steps_from ws at s) ≡ true
  every_from zero h = ap (list_all f) (steps_all ws at) ∙ e
  every_from (suc s) h =
      ap (λ (i : ℕ). list_all f (steps_from ws at i)) (sym (add-one s))
      ∙ and_snd (f (step_of (step_word ws at s))) _ (ap (list_all f) (sym (steps_cons ws at s p h _ refl)) ∙ every_from s (omega arith))

  pub every_step : (s : ℕ) → s < steps_at ws at → (w : ℕ) → w ≡ step_word ws at s → f (step_of w) ≡ true
  every_step s h w i =
      and_fst (f (step_of w)) _ (ap (list_all f) (sym (steps_cons ws at s p h w i)) ∙ every_from s (omega arith))
