-- F1 fits 32 bits.
use Rattle.rules.proofs.Offered.{to_z-of_z}
use Rattle.exports.specs.Fields.{f1_field, units}
use Rattle.exports.proofs.Values.{moderate}
use Rattle.exports.proofs.Sizes.{f1_short, f1_fair}
use Rattle.exports.proofs.fields.thousandths.Goals as goal

pub scaled-requires : goal.scaled-requires
unfolding f1_field
scaled-requires c = moderate f1_field _ f1_fair c.requires

pub overflow_cast-result : goal.overflow_cast-result
unfolding f1_field units
overflow_cast-result c = rw (to_z-of_z c.scaled.ensures.1, c.scaled.ensures.0) (f1_short c.args.x c.requires)

pub returns : goal.returns
unfolding f1_field units
returns c = rw (to_z-of_z c.scaled.ensures.1, c.scaled.ensures.0) (to_z-of_z (f1_short c.args.x c.requires))
