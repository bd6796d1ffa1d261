use Rattle.rules.proofs.Offered.{arith, ◌and◌, byte, clutch}
use Rattle.std.proofs.lemmas.Bool.Decides.{nat_tests}
use Rattle.trips.proofs.Clutch.{falls}
use Rattle.trips.proofs.byte.trip_byte.Goals as goal

pub returns-then-engine-idle : goal.returns-then-engine-idle
unfolding byte clutch ◌and◌
returns-then-engine-idle c = grind (arith, nat_tests, falls)

pub returns-else-us-j : goal.returns-else-us-j
unfolding byte clutch ◌and◌
returns-else-us-j c = grind (arith, nat_tests, falls)
