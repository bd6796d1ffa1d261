-- Field by field.
use Rattle.rules.proofs.Offered.{to_z-of_z}
use Rattle.exports.specs.Fields.{f0_field, f2_field}
use Rattle.exports.proofs.Sizes.{f1_short, f0_plain, f2_plain}
use Rattle.exports.proofs.fields.in_units.Goals as goal

pub whole_number-requires : goal.whole_number-requires
unfolding f0_field
whole_number-requires c = (c.requires.f0_in, f0_plain)

pub whole_number-requires-2 : goal.whole_number-requires-2
unfolding f2_field
whole_number-requires-2 c = (c.requires.f2_in, f2_plain)

pub returns : goal.returns
unfolding f0_field f2_field
returns c = record {
  f0_is = c.whole_number.ensures;
  f1_is = rw c.thousandths.ensures (to_z-of_z (f1_short _ c.requires.f1_in));
  f2_is = c.whole_number-2.ensures;
}
