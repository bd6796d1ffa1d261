use Rattle.rules.proofs.Offered.{arith, ◌or◌, ◌and◌}
use Rattle.std.proofs.lemmas.Bool.Decides.{nat_tests}
use Rattle.trips.specs.Trip.{one_above}
use Rattle.trips.proofs.peak.one_above.Goals as goal

pub returns-then-g-from : goal.returns-then-g-from
unfolding one_above ◌or◌ ◌and◌
returns-then-g-from c = grind (arith, nat_tests)

pub returns-else-g-from : goal.returns-else-g-from
unfolding one_above ◌or◌ ◌and◌
returns-else-g-from c = grind (arith, nat_tests)
