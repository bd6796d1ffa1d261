use Rattle.rules.proofs.Offered.{arith, low_from}
use Rattle.std.proofs.lemmas.Bool.Decides.{nat_tests}
use Rattle.gears.specs.Choosing.{first_of}
use Rattle.trips.proofs.Trip.{first_one, first_none}
use Rattle.trips.proofs.work.choice_first.Goals as goal

pub returns-then-hold-ne0 : goal.returns-then-hold-ne0
unfolding first_of
returns-then-hold-ne0 c = λ d. grind (arith, nat_tests)

pub engine-requires : goal.engine-requires
engine-requires c = record { from = omega (arith, low_from); to = omega (arith, c.requires.low_ng) }

pub returns-then-engine-top : goal.returns-then-engine-top
returns-then-engine-top c = λ d. first_one _ _ c.requires d c.if-hold-ne0.false (omega arith) (omega arith)

pub returns-else-engine-top : goal.returns-else-engine-top
returns-else-engine-top c = λ d. first_none _ _ c.requires d {lowest = c.lowest-low.result} c.if-hold-ne0.false (omega arith) (omega arith)
