-- What the code's steps and partitionings stand for.
use Rattle.plan.specs.Plan as plan
use Rattle.plan.specs.declared.step.Access.{Access}
use Rattle.plan.specs.declared.step.Access.TheVariants.{Read, Write}
use Rattle.plan.specs.declared.step.Action.{Action}
use Rattle.plan.specs.declared.step.Action.TheVariants.{Set, Add, Need, Take}
use Rattle.plan.specs.declared.step.Source.{Source}
use Rattle.plan.specs.declared.step.Source.TheVariants.{Parameter, Fixed}
use Rattle.plan.specs.declared.step.Step.{Step}
use Rattle.plan.specs.declared.step.Step.TheVariants.{Cell, Operand, Tell}
use Rattle.plan.specs.declared.partitioning.Partitioning as partitioning
use Rattle.plan.specs.declared.partitioning.Partitioning.TheVariants as by

abbrev pub access_from : Access → plan.Access
access_from Read = plan.reads
access_from Write = plan.writes

abbrev pub action_from : Action → plan.Action
action_from Set = plan.sets
action_from Add = plan.adds
action_from Need = plan.needs
action_from Take = plan.takes

abbrev pub source_from : Source → plan.Source
source_from (Parameter i) = plan.param i
source_from (Fixed v) = plan.fixed v

abbrev pub step_from : Step → plan.Step
step_from (Cell a t c r) = plan.cell (access_from a) t c (source_from r)
step_from (Operand a o) = plan.operand (action_from a) (source_from o)
step_from Tell = plan.tells

abbrev pub part_from : partitioning.Partitioning → plan.Partitioning
part_from (by.Parameter i) = plan.by_param i
part_from by.Unpartitioned = plan.unpartitioned
part_from by.Open = plan.undecided
