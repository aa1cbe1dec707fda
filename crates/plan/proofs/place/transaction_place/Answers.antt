-- `plan::transaction_place`: after i turns the walk is at the place of transaction i, at most 17 words further for each.
-- Assumes nothing.
use mathlib.Core.Path.{refl, ◌∙◌, sym, ap}
use Prim.Native.Nat.{ℕ, ◌+◌}
use native.Mathlib.Omega.{arith}
use lib.ListN.{get_or}
use Rattle.word.specs.Field.{step_count}
use Rattle.plan.specs.Place.{transaction_place}
use Rattle.plan.proofs.Places.{place_next}
use Rattle.plan.proofs.place.transaction_place.Goals as goal

pub loop-i-init : goal.loop-i-init
unfolding transaction_place
loop-i-init c = (omega arith, omega arith, refl)

pub loop-i-preserved : goal.loop-i-preserved
loop-i-preserved c =
    let plan = c.args.plan.now in
    let i = c.loop-i.i in (
      omega arith,
      omega arith,
      ap (λ (w : ℕ). c.loop-i.at + 1 + step_count w) c.word_at-word.ensures
          ∙ ap (λ (a : ℕ). a + 1 + step_count (get_or plan a 0)) c.loop-i.invariant.2
          ∙ sym (place_next plan i),
    )

pub returns : goal.returns
returns c = c.loop-i.invariant.2 ∙ ap (transaction_place c.args.plan.now) (omega arith)
