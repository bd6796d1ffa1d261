use Rattle.rules.proofs.Offered.{arith, ◌and◌, ◌or◌, free, is_peak, peak}
use Rattle.std.proofs.lemmas.Bool.Decides.{nat_tests}
use Rattle.trips.specs.Trip.{one_above}
use Rattle.trips.proofs.peak.peaked.Goals as goal

pub returns-then-floor-from : goal.returns-then-floor-from
unfolding peak is_peak free one_above ◌and◌ ◌or◌
returns-then-floor-from c = grind (arith, nat_tests)

pub returns-else-last-g : goal.returns-else-last-g
unfolding peak is_peak free one_above ◌and◌ ◌or◌
returns-else-last-g c = grind (arith, nat_tests)
