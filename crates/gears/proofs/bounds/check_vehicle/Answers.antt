-- The fields that passed are in bounds.
use Rattle.rules.proofs.Offered.{arith, said}
use Rattle.gears.proofs.Tests.{ladders}
use Rattle.gears.proofs.bounds.check_vehicle.Goals as goal

pub ratios_good-requires : goal.ratios_good-requires
unfolding said
ratios_good-requires c = grind (arith, ladders)

pub points_good-requires : goal.points_good-requires
unfolding said
points_good-requires c = grind (arith, ladders)

pub ends_good-requires : goal.ends_good-requires
unfolding said
ends_good-requires c = grind (arith, ladders)
