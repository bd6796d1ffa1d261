-- Within bounds that are not negative a value is its size.
use Rattle.rules.proofs.Offered.{arith, ◌∙◌, ap, pos}
use Rattle.exports.proofs.Values.{no_nan, moderate}
use Rattle.exports.proofs.Sizes.{size_is}
use Rattle.exports.proofs.fields.whole_number.Goals as goal

pub float_to_bits-x : goal.float_to_bits-x
float_to_bits-x c = no_nan _ c.requires.0.is.number

pub size_of-requires : goal.size_of-requires
size_of-requires c = let m = moderate _ _ c.requires.1.fair c.requires.0 in (m.below, m.scale)

pub overflow_cast-result : goal.overflow_cast-result
overflow_cast-result c = let n = size_is c.args.field c.args.x c.requires.1 c.requires.0 in let e = c.size_of.ensures in omega (arith, n)

pub returns : goal.returns
returns c = ap pos c.size_of.ensures.0 ∙ (size_is c.args.field c.args.x c.requires.1 c.requires.0).0
