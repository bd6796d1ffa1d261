use Rattle.rules.proofs.Offered.{◌and◌, arith}
use Rattle.std.proofs.lemmas.Bool.Decides.{nat_tests}
use Rattle.trips.specs.Second.{slowed}
use Rattle.trips.proofs.slowing.slowed.Goals as goal

pub returns-then-g-low : goal.returns-then-g-low
unfolding slowed ◌and◌
returns-then-g-low c = grind (arith, nat_tests)

pub returns-else-hold-eq0 : goal.returns-else-hold-eq0
unfolding slowed ◌and◌
returns-else-hold-eq0 c = grind (arith, nat_tests)
