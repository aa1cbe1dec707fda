-- The transaction with a number is that entry of the decoded plan: it stands at its place in the table.
-- Assumes nothing.
use Rattle.std.proofs.Common.{◌<◌, ◌∙◌, sym, ap, arith}
use Rattle.word.specs.Field.{head_transactions}
use Rattle.std.proofs.Common.{Some}
use Rattle.std.proofs.lemmas.Option.{slice_get-get_or}
use Rattle.plan.specs.Plan.{no_transaction}
use Rattle.plan.specs.Decode.{head_of, plan_of}
use Rattle.plan.proofs.Accepted.{transaction_count}
use Rattle.plan.proofs.Places.{stands_looked_up, transaction_looked_up}
use Rattle.plan.proofs.accepted_plan.Plan.transaction.Goals as goal

pub bounds-self-number : goal.bounds-self-number
bounds-self-number c = omega (arith, c.if-transaction_count-number.false, c.transaction_count.ensures.most)

pub standing-requires : goal.standing-requires
standing-requires c =
    let p = c.args.self.now in
    let n = transaction_count p.words.now p.accepted in
    stands_looked_up p.words.now p.places p.accepted p.placed c.args.number
    (omega (arith, n, c.transaction_count.ensures.count, c.if-transaction_count-number.false))

pub returns : goal.returns
returns c =
    let p = c.args.self.now in
    let k = c.args.number in
    let n = transaction_count p.words.now p.accepted in
    let below : k < head_transactions (head_of p.words.now) =
    omega (arith, n, c.transaction_count.ensures.count, c.if-transaction_count-number.false) in
    ap Some (c.standing.ensures ∙ transaction_looked_up p.words.now p.places p.accepted p.placed k below)
    ∙ sym (slice_get-get_or (plan_of p.words.now).transactions k no_transaction (omega (arith, n, below)))
