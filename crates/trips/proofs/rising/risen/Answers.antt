use Rattle.rules.proofs.Offered.{arith, ◌and◌, free, too_high, rising}
use Rattle.std.proofs.lemmas.Bool.Decides.{nat_tests}
use Rattle.trips.proofs.Passes.{floor_to}
use Rattle.trips.proofs.Seconds.{ceiling_from}
use Rattle.trips.proofs.rising.risen.Goals as goal

pub overflow_cast-result : goal.overflow_cast-result
overflow_cast-result c = omega (arith, floor_to)

pub returns-then-ceiling-from : goal.returns-then-ceiling-from
unfolding rising too_high free ◌and◌
returns-then-ceiling-from c = grind (arith, nat_tests)

pub returns-else-gs-j : goal.returns-else-gs-j
unfolding rising too_high free ◌and◌
returns-else-gs-j c = grind (arith, nat_tests, ceiling_from)
