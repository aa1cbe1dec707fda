-- The transactions of an accepted plan stand behind its head.
-- Assumes nothing.
use Rattle.std.proofs.Common.{◌≡◌, ◌∙◌}
use Rattle.std.proofs.lemmas.List.{take_rest}
use Rattle.word.specs.Field.{head_transactions}
use Rattle.plan.specs.Decode.{plan_of, head_of}
use Rattle.plan.proofs.Accepted.{accepted_gives, transaction_count}
use Rattle.plan.proofs.accepted_plan.Plan.transactions.Goals as goal

pub slice_bounds-result-count : goal.slice_bounds-result-count
slice_bounds-result-count c = (accepted_gives _ c.args.self.now.accepted).words_low

pub slice_bounds-result-start : goal.slice_bounds-result-start
slice_bounds-result-start c = (accepted_gives _ c.args.self.now.accepted).words_low

pub invariant_of-result : goal.invariant_of-result
invariant_of-result c =
    let ws = c.args.self.now.words.now in
    let n : c.transaction_count.result ≡ head_transactions (head_of ws) = c.transaction_count.ensures.count
    ∙ transaction_count ws c.args.self.now.accepted in
    record { formed = rw (n, take_rest ws 1) (accepted_gives _ c.args.self.now.accepted).form }

pub returns : goal.returns
unfolding plan_of
returns c =
    let ws = c.args.self.now.words.now in
    let n : c.transaction_count.result ≡ head_transactions (head_of ws) = c.transaction_count.ensures.count
    ∙ transaction_count ws c.args.self.now.accepted in
    rw (n, take_rest ws 1)
