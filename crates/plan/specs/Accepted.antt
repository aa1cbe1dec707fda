-- What the code's accepted plans stand for.
use Rattle.plan.specs.Plan as plan
use Rattle.plan.specs.Decode.{plan_of}
use Rattle.plan.specs.declared.accepted_plan.Plan.{Plan}

abbrev pub the_plan : Plan → plan.Plan
the_plan p = plan_of p.words.now
