-- Question 6: behind that of the state each answer is the branch of the definition that the tests before it chose. The table is handed on
-- just where requests wait.
-- Assumes nothing.
use Rattle.std.proofs.Common.{◌≡◌, true, false, [], sym, ap, ◌∙◌, arith, rules}
use mathlib.Core.Bool.{false≢true}
use borrow.Author.Tests.{lt-ltb, le-ltb}
use Rattle.verdict.specs.Verdict.{accepted, ask}
use Rattle.verdict.proofs.Verdicts.{ask_accepted}
use Rattle.plan.specs.Accepted.{the_plan}
use Rattle.queue.specs.Words.{records_in}
use Rattle.desk.specs.Admission.{state_fits}
use Rattle.desk.proofs.QuestionSix.{state_refused, on_records, by_tests, none_waits, few_wait}
use Rattle.desk.proofs.check.desk_fits.Goals as goal

pub returns-in_err-state_fits-clause-verdict : goal.returns-in_err-state_fits-clause-verdict
returns-in_err-state_fits-clause-verdict c = search (rules, state_refused)

pub all_wait_here-requires : goal.all_wait_here-requires
all_wait_here-requires c =
    let passes : ask 6 (state_fits (the_plan c.args.plan.now) c.args.state) ≡ accepted = search rules in
    few_wait (the_plan c.args.plan.now) c.args.state [] (ask_accepted 6 _ passes)

pub urgent_lead-requires : goal.urgent_lead-requires
urgent_lead-requires c =
    let passes : ask 6 (state_fits (the_plan c.args.plan.now) c.args.state) ≡ accepted = search rules in
    omega (arith, few_wait (the_plan c.args.plan.now) c.args.state [] (ask_accepted 6 _ passes))

pub returns-then-waiting-eq0-clause-verdict : goal.returns-then-waiting-eq0-clause-verdict
returns-then-waiting-eq0-clause-verdict c =
    let p = the_plan c.args.plan.now in
    let d = c.args.state in
    let passes : ask 6 (state_fits p d) ≡ accepted = search rules in
    let records = records_in c.args.row.now in
    sym (ap (ask 6) (on_records p d records (ask_accepted 6 _ passes)
    ∙ none_waits p d.desk records d.waiting c.if-waiting-eq0.true))

pub returns-then-waiting-eq0-clause-filled : goal.returns-then-waiting-eq0-clause-filled
returns-then-waiting-eq0-clause-filled c = sym (le-ltb 0 c.args.state.waiting (omega (arith, c.if-waiting-eq0.true)))

pub returns-then-not-all_wait_here-clause-verdict : goal.returns-then-not-all_wait_here-clause-verdict
returns-then-not-all_wait_here-clause-verdict c =
    let d = c.args.state in
    let passes : ask 6 (state_fits (the_plan c.args.plan.now) d) ≡ accepted = search rules in
    by_tests c.args.plan.now.words.now c.fill-masks.result.plan.words.now d (records_in c.args.row.now) c.fill-masks.ensures passes
    false true (sym c.all_wait_here.ensures ∙ c.if-not-all_wait_here.true) (λ h. absurd (false≢true h))

pub returns-then-not-urgent_lead-clause-verdict : goal.returns-then-not-urgent_lead-clause-verdict
returns-then-not-urgent_lead-clause-verdict c =
    let d = c.args.state in
    let passes : ask 6 (state_fits (the_plan c.args.plan.now) d) ≡ accepted = search rules in
    by_tests c.args.plan.now.words.now c.fill-masks.result.plan.words.now d (records_in c.args.row.now) c.fill-masks.ensures passes
    true false (sym c.all_wait_here.ensures ∙ c.if-not-all_wait_here.false)
    (λ h. sym c.urgent_lead.ensures ∙ c.if-not-urgent_lead.true)

pub returns-clause-verdict : goal.returns-clause-verdict
returns-clause-verdict c =
    let d = c.args.state in
    let passes : ask 6 (state_fits (the_plan c.args.plan.now) d) ≡ accepted = search rules in
    by_tests c.args.plan.now.words.now c.fill-masks.result.plan.words.now d (records_in c.args.row.now) c.fill-masks.ensures passes
    true true (sym c.all_wait_here.ensures ∙ c.if-not-all_wait_here.false)
    (λ h. sym c.urgent_lead.ensures ∙ c.if-not-urgent_lead.false)

pub returns-clause-filled : goal.returns-clause-filled
returns-clause-filled c = sym (lt-ltb 0 c.args.state.waiting (omega (arith, c.if-waiting-eq0.false)))
