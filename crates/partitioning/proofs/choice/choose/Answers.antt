-- The chooser: questions 1 to 4, then 16, then the plan is filled by the best filling.
-- Assumes nothing.
use Rattle.std.proofs.Common.{◌≡◌, arith, rules}
use Rattle.verdict.specs.Verdict.{accepted}
use Rattle.plan.specs.Admission.{open_plan_verdict}
use Rattle.partitioning.proofs.Chosen.{refused_plan, too_open, chosen_plan}
use Rattle.partitioning.proofs.choice.choose.Goals as goal

pub returns-in_err-read_open_plan : goal.returns-in_err-read_open_plan
returns-in_err-read_open_plan c = search (rules, refused_plan)

pub returns-then-open_count-gt-MOST_OPEN : goal.returns-then-open_count-gt-MOST_OPEN
returns-then-open_count-gt-MOST_OPEN c =
    let passes : open_plan_verdict c.before.args.plan.now ≡ accepted = search rules in
    too_open _ passes (omega arith)

pub search-found-requires : goal.search-found-requires
search-found-requires c =
    let passes : open_plan_verdict c.before.args.plan.now ≡ accepted = search rules in (passes, c.filling_count-fillings.ensures)

pub returns : goal.returns
returns c =
    let passes : open_plan_verdict c.before.args.plan.now ≡ accepted = search rules in
    chosen_plan _ passes (omega arith) _ _ c.search-found.ensures.0 c.search-found.ensures.1 _ c.fill.ensures
