use Rattle.rules.proofs.Offered.{◌and◌, arith, ceiling}
use Rattle.std.proofs.lemmas.Bool.Decides.{nat_tests}
use Rattle.trips.proofs.rising.ceiling.Goals as goal

pub returns-then-last-gs : goal.returns-then-last-gs
unfolding ceiling ◌and◌
returns-then-last-gs c = grind (arith, nat_tests)

pub returns-else-j-ge2 : goal.returns-else-j-ge2
unfolding ceiling ◌and◌
returns-else-j-ge2 c = grind (arith, nat_tests)
