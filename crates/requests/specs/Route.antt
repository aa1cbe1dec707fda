-- Where a request's operation goes, by its class and by whether this desk is its own.
use Rattle.std.specs.Prelude.{Bool, true, false}
use Rattle.conflict.specs.Class.{Class, free, local, global}
use Rattle.requests.specs.declared.route.Route as code
use Rattle.requests.specs.declared.route.Route.TheVariants as route

pub data Way : Type 0 where
  runs joins leaves : Way

abbrev pub way_of : code.Route → Way
way_of route.Runs = runs
way_of route.Waits = joins
way_of route.Elsewhere = leaves

abbrev pub way_by : Class → Bool → Way
way_by free own = runs
way_by local true = runs
way_by local false = leaves
way_by global true = joins
way_by global false = leaves
