-- The table of places: after k turns it has those of the first k transactions, and the walk is at the next.
-- Assumes nothing.
use mathlib.Core.Path.{refl, ◌∙◌, sym, ap}
use Prim.Native.Nat.{ℕ, ◌+◌, ◌≤◌, ◌<◌}
use native.Mathlib.Omega.{arith}
use lib.ListN.{length}
use Rattle.word.specs.Field.{head_transactions}
use Rattle.plan.specs.Decode.{head_of}
use Rattle.plan.specs.Place.{StandsAt, steps_at, transaction_place}
use Rattle.plan.proofs.Accepted.{accepted_gives}
use Rattle.plan.proofs.Places.{place_next, stands_at_lem}
use Rattle.plan.proofs.Placing.{placing_none, placing_more, placing_done}
use borrow.Author.Rules.{rules}
use Rattle.plan.proofs.place.transaction_places.Goals as goal

pub bounds-plan-0 : goal.bounds-plan-0
bounds-plan-0 c = (accepted_gives _ c.requires).words_low

pub loop-k-init : goal.loop-k-init
unfolding transaction_place
loop-k-init c = (omega arith, refl, refl, placing_none _)

pub bounds-places-k : goal.bounds-places-k
bounds-places-k c =
    let below : c.loop-k.k < 32 = omega (arith, (accepted_gives _ c.requires).transactions_high, c.loop-k.invariant.1) in
    below

pub step_count-requires : goal.step_count-requires
step_count-requires c =
    let stands : StandsAt c.args.plan.now c.loop-k.at = rw c.loop-k.invariant.2
    (stands_at_lem _ c.requires c.loop-k.k (omega (arith, c.loop-k.invariant.1))) in
    stands

pub loop-k-smaller : goal.loop-k-smaller
loop-k-smaller c = omega arith

pub loop-k-preserved : goal.loop-k-preserved
loop-k-preserved c =
    let below : c.loop-k.k < 32 = omega (arith, (accepted_gives _ c.requires).transactions_high, c.loop-k.invariant.1) in
    let plan = c.args.plan.now in (
      omega arith,
      c.loop-k.invariant.1,
      ap (λ (n : ℕ). c.loop-k.at + 1 + n) c.step_count.ensures
          ∙ ap (λ (a : ℕ). a + 1 + steps_at plan a) c.loop-k.invariant.2 ∙ sym (place_next plan c.loop-k.k),
      placing_more _ _ _ c.loop-k.invariant.3 _ below c.loop-k.invariant.2,
    )

pub returns : goal.returns
returns c =
    let i = c.loop-k.invariant in placing_done _ _ _ i.3 (omega (arith, i.1))

pub overflow_add-at : goal.overflow_add-at
overflow_add-at c =
    let k_lt : c.loop-k.k < head_transactions (head_of c.args.plan.now) = omega (arith, c.loop-k.invariant.1) in
    let room = (stands_at_lem _ c.requires c.loop-k.k k_lt).room in
    let h : c.loop-k.at < length c.args.plan.now = omega (arith, room, c.loop-k.invariant.2) in
    search rules

pub overflow_add-at-in-loop-k : goal.overflow_add-at-in-loop-k
overflow_add-at-in-loop-k c =
    let k_lt : c.loop-k.k < head_transactions (head_of c.args.plan.now) = omega (arith, c.loop-k.invariant.1) in
    let stands : StandsAt c.args.plan.now c.loop-k.at = rw c.loop-k.invariant.2 (stands_at_lem _ c.requires c.loop-k.k k_lt) in
    let h : c.loop-k.at + 1 + c.step_count.result ≤ length c.args.plan.now = omega (arith, stands.room, c.step_count.ensures) in
    search rules
