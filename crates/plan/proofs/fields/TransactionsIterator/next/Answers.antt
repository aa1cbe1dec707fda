-- The next transaction is the first of those that are left.
-- Assumes nothing.
use Rattle.std.proofs.Common.{rules, arith, refl, ◌∙◌}
use Rattle.plan.specs.Decode.{transactions_of}
use Rattle.plan.proofs.FirstTransaction.{first_transaction}
use Rattle.plan.proofs.fields.TransactionsIterator.next.Goals as goal

pub returns-then-self-eq0-clause-steps : goal.returns-then-self-eq0-clause-steps
unfolding transactions_of
returns-then-self-eq0-clause-steps c = rw c.if-self-eq0.true (refl, refl)

pub bounds-self-0 : goal.bounds-self-0
bounds-self-0 c =
    let f = first_transaction _ _ c.args.self.now.formed (omega (arith, c.if-self-eq0.false)) in omega (arith, f.room)

pub slice_bounds-transaction-end : goal.slice_bounds-transaction-end
slice_bounds-transaction-end c = (first_transaction _ _ c.args.self.now.formed (omega (arith, c.if-self-eq0.false))).room

pub slice_bounds-self-count : goal.slice_bounds-self-count
slice_bounds-self-count c = (first_transaction _ _ c.args.self.now.formed (omega (arith, c.if-self-eq0.false))).room

pub slice_bounds-self-start : goal.slice_bounds-self-start
slice_bounds-self-start c = (first_transaction _ _ c.args.self.now.formed (omega (arith, c.if-self-eq0.false))).room

pub invariant_of-self : goal.invariant_of-self
invariant_of-self c =
    record { formed = (first_transaction _ _ c.args.self.now.formed (omega (arith, c.if-self-eq0.false))).rest }

pub invariant_of-transaction : goal.invariant_of-transaction
invariant_of-transaction c =
    record { formed = (first_transaction _ _ c.args.self.now.formed (omega (arith, c.if-self-eq0.false))).transaction }

pub returns-clause-steps : goal.returns-clause-steps
returns-clause-steps c =
    let f = first_transaction _ _ c.args.self.now.formed (omega (arith, c.if-self-eq0.false)) in f.decoded ∙ rw f.steps

pub returns-clause-goes : goal.returns-clause-goes
returns-clause-goes c =
    let f = first_transaction _ _ c.args.self.now.formed (omega (arith, c.if-self-eq0.false)) in
    let d = f.decoded in search rules
