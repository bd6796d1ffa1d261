-- The exact value's size, and the sign in front of it.
use Rattle.rules.proofs.Offered.{arith}
use Rattle.exports.proofs.Values.{no_nan}
use Rattle.exports.proofs.Sizes.{plain, turned}
use Rattle.exports.proofs.floats.scaled.Goals as goal

pub float_to_bits-bits : goal.float_to_bits-bits
float_to_bits-bits c = no_nan _ c.requires.number

pub returns-then-bits-lt2147483648 : goal.returns-then-bits-lt2147483648
returns-then-bits-lt2147483648 c = let r = c.size_of-size in plain _ _ c.requires r.result r.ensures.0 r.ensures.1 (omega arith)

pub returns-else-bits-lt2147483648 : goal.returns-else-bits-lt2147483648
returns-else-bits-lt2147483648 c = let r = c.size_of-size in turned _ _ c.requires r.result r.ensures.0 r.ensures.1 (omega arith)
