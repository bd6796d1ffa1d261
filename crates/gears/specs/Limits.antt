-- What a search for a gear asks of a vehicle's numbers.
use Rattle.std.specs.Prelude.{◌+◌, ◌*◌}
use Rattle.rules.specs.declared.Vehicle.{Vehicle}
use Rattle.rules.specs.declared.Role.TheVariants.{Closing, AfterLow, Inner}
use Rattle.rules.specs.Gears.{minimum}
use Rattle.rules.specs.Units.{low}
use Rattle.gears.specs.declared.Limits.{Limits}
use Rattle.gears.specs.declared.Road.{Road}

-- the lowest gear; the least engine speeds X of the gears from two above it on, and of the gear above it in its three places; and the most
abbrev pub limits_of : Vehicle → Limits
limits_of car = record {
  low = low car;
  shared = 1000 * minimum car Inner (low car + 2);
  closing = 1000 * minimum car Closing (low car + 1);
  after_low = 1000 * minimum car AfterLow (low car + 1);
  inner = 1000 * minimum car Inner (low car + 1);
  top = 1000 * car.nmax;
}

-- what E takes
abbrev pub road_of : Vehicle → Road
road_of car = record { f0 = car.f0; f1 = car.f1; f2 = car.f2; tm = car.tm }
