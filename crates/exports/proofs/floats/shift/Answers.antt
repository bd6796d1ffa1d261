-- A field of 0 counts as one of 1.
use Rattle.std.proofs.lemmas.Bool.Decides.{nat_tests}
use Rattle.rules.proofs.Offered.{arith}
use Rattle.exports.specs.Bits.{shift}
use Rattle.exports.proofs.floats.shift.Goals as goal

pub returns : goal.returns
unfolding shift
returns c = grind (arith, nat_tests)
