-- Questions 3 and 4 over the words: at each place of the walk, what is still to come gives the whole verdict.
-- Assumes nothing.
use mathlib.Core.Path.{◌≡◌, ◌∙◌, sym, ap, ap₂}
use mathlib.Core.Bool.{Bool, true, cond}
use Prim.Native.Nat.{◌+◌, ◌≤◌, ◌<◌}
use borrow.Author.Tests.{leb-true}
use native.Mathlib.Omega.{arith}
use lib.ListN.{length, get_or, drop}
use Rattle.lists.proofs.Laws.{and_fst, and_snd}
use Rattle.verdict.specs.Verdict.{accepted, refused}
use Rattle.plan.specs.Decode.{step_of}
use Rattle.plan.specs.Admission.{transactions_verdict, transaction_formed, step_formed, step_fits, one_if_tells, most_tells}
use Rattle.plan.proofs.Rest.{formed_at, stands, rest_at, walk_start, tx_fault, tx_step, end_more, end_done, step_fault}
use Rattle.plan.proofs.Rest.{step_step, steps_done}
use Rattle.plan.proofs.reader.read_transactions.Goals as goal
use Rattle.plan.proofs.reader.read_transactions.Goals.{else-transactions-test, then-transactions-test+then-not-transaction_at}
use Rattle.plan.proofs.reader.read_transactions.Goals.{then-transactions-test+else-not-transaction_at+then-loop-s-test+then-not-step_at}

pub transactions-init : goal.transactions-init
transactions-init c = walk_start _ _

pub bounds-plan-at : goal.bounds-plan-at
bounds-plan-at c =
    let tx_formed_at : formed_at transaction_formed c.args.plan.now c.transactions.at
    ≡ true = sym c.transaction_at.ensures ∙ c.if-not-transaction_at.false in
    let tx_here : c.transactions.at < length c.args.plan.now = (stands transaction_formed c.args.plan.now
    c.transactions.at tx_formed_at).0 in
    tx_here

pub loop-s-init : goal.loop-s-init
loop-s-init c =
    let tx_formed_at : formed_at transaction_formed c.args.plan.now c.transactions.at
    ≡ true = sym c.transaction_at.ensures ∙ c.if-not-transaction_at.false in (
      omega arith,
      rw c.partitioning_missing-missing.ensures (sym (tx_step _ _ _ _ _ c.transactions-test.true tx_formed_at)
          ∙ c.transactions.invariant),
    )

pub bounds-plan-at-in-loop-s : goal.bounds-plan-at-in-loop-s
bounds-plan-at-in-loop-s c =
    let words = c.args.plan.now in
    let step_formed_at : let l = c.loop-s in formed_at (step_fits l.tells) words l.at ≡ true = sym c.step_at.ensures
    ∙ c.if-not-step_at.false in
    let step_here : c.loop-s.at < length words = let l = c.loop-s in (stands (step_fits l.tells) words l.at step_formed_at).0 in
    step_here

pub tells_with-tells-requires : goal.tells_with-tells-requires
tells_with-tells-requires c = c.loop-s.invariant.0

pub step_missing-missing-requires : goal.step_missing-missing-requires
step_missing-missing-requires c =
    let words = c.args.plan.now in
    let step_formed_at : let l = c.loop-s in formed_at (step_fits l.tells) words l.at ≡ true = sym c.step_at.ensures
    ∙ c.if-not-step_at.false in
    let step_fits_lem : let l = c.loop-s in
    let w = get_or words l.at 0 in
    (step_formed w ≡ true) × (l.tells + one_if_tells (step_of w) ≤ most_tells) = let l = c.loop-s in
    let w = get_or words l.at 0 in
    let f = (stands (step_fits l.tells) words l.at step_formed_at).2 in
    (and_fst (step_formed w) _ f, leb-true _ most_tells (and_snd (step_formed w) _ f)) in
    step_fits_lem.0

pub loop-s-smaller : goal.loop-s-smaller
loop-s-smaller c = omega arith

pub loop-s-preserved : goal.loop-s-preserved
loop-s-preserved c =
    let words = c.args.plan.now in
    let step_formed_at : let l = c.loop-s in formed_at (step_fits l.tells) words l.at ≡ true = sym c.step_at.ensures
    ∙ c.if-not-step_at.false in
    let step_fits_lem : let l = c.loop-s in
    let w = get_or words l.at 0 in
    (step_formed w ≡ true) × (l.tells + one_if_tells (step_of w) ≤ most_tells) = let l = c.loop-s in
    let w = get_or words l.at 0 in
    let f = (stands (step_fits l.tells) words l.at step_formed_at).2 in
    (and_fst (step_formed w) _ f, leb-true _ most_tells (and_snd (step_formed w) _ f)) in
    let counted = c.tells_with-tells.ensures in (
      omega (arith, counted, step_fits_lem.1),
      rw (c.step_missing-missing.ensures, counted) (sym (step_step _ _ _ _ _ _ _ _ _ c.loop-s-test.true step_formed_at)
          ∙ c.loop-s.invariant.1),
    )

pub transactions-smaller : goal.transactions-smaller
transactions-smaller c = omega arith

pub transactions-preserved : goal.transactions-preserved
transactions-preserved c = sym (steps_done _ _ _ _ _ _ _ _ _ c.loop-s.invariant.0 c.loop-s-test.false) ∙ c.loop-s.invariant.1

pub returns-then-t-transactions : goal.returns-then-t-transactions
returns-then-t-transactions c =
    elim c.transactions-test.branch [
      | else-transactions-test w ↦ absurd (omega arith)
      | then-transactions-test+then-not-transaction_at w ↦
          sym (tx_fault _ _ _ _ _ w.transactions-test.true (sym w.transaction_at.ensures ∙ w.if-not-transaction_at.true))
          ∙ c.transactions.invariant
      | then-transactions-test+else-not-transaction_at+then-loop-s-test+then-not-step_at w ↦
          sym (step_fault _ _ _ _ _ _ _ _ _ w.loop-s-test.true (sym w.step_at.ensures ∙ w.if-not-step_at.true)) ∙ w.loop-s.invariant.1
    ]

pub returns-then-at-plan : goal.returns-then-at-plan
returns-then-at-plan c =
    -- past both loops with no fault
    let at_end : rest_at c.args.transactions c.transactions.t c.args.plan.now c.transactions-test.at c.transactions-test.missing
    ≡ transactions_verdict c.args.transactions (drop 1 c.args.plan.now) =
    elim c.transactions-test.branch [
      | else-transactions-test w ↦ ap₂ (rest_at _ _ _) w.at-is w.missing-is ∙ c.transactions.invariant
      | then-transactions-test+then-not-transaction_at w ↦ absurd (omega arith)
      | then-transactions-test+else-not-transaction_at+then-loop-s-test+then-not-step_at w ↦ absurd (omega arith)
    ] in
    sym (end_more _ _ _ _ _ c.if-t-transactions.false c.if-at-plan.true) ∙ at_end

pub returns-then-missing : goal.returns-then-missing
returns-then-missing c =
    let at_end : rest_at c.args.transactions c.transactions.t c.args.plan.now c.transactions-test.at c.transactions-test.missing
    ≡ transactions_verdict c.args.transactions (drop 1 c.args.plan.now) =
    elim c.transactions-test.branch [
      | else-transactions-test w ↦ ap₂ (rest_at _ _ _) w.at-is w.missing-is ∙ c.transactions.invariant
      | then-transactions-test+then-not-transaction_at w ↦ absurd (omega arith)
      | then-transactions-test+else-not-transaction_at+then-loop-s-test+then-not-step_at w ↦ absurd (omega arith)
    ] in
    sym (ap (λ (m : Bool). cond m (refused 4) accepted) c.if-missing.true)
    ∙ sym (end_done _ _ _ _ _ c.if-t-transactions.false c.if-at-plan.false) ∙ at_end

pub returns : goal.returns
returns c =
    let at_end : rest_at c.args.transactions c.transactions.t c.args.plan.now c.transactions-test.at c.transactions-test.missing
    ≡ transactions_verdict c.args.transactions (drop 1 c.args.plan.now) =
    elim c.transactions-test.branch [
      | else-transactions-test w ↦ ap₂ (rest_at _ _ _) w.at-is w.missing-is ∙ c.transactions.invariant
      | then-transactions-test+then-not-transaction_at w ↦ absurd (omega arith)
      | then-transactions-test+else-not-transaction_at+then-loop-s-test+then-not-step_at w ↦ absurd (omega arith)
    ] in
    sym (ap (λ (m : Bool). cond m (refused 4) accepted) c.if-missing.false)
    ∙ sym (end_done _ _ _ _ _ c.if-t-transactions.false c.if-at-plan.false) ∙ at_end
