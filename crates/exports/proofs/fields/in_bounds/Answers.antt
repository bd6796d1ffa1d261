-- From 2^23 on a value is beyond every bound; below, the two tests are of numbers read back from their bits.
use Rattle.rules.proofs.Offered.{arith, sym, to_z-of_z, ◌and◌}
use Rattle.exports.specs.Fields.{units, in_bounds}
use Rattle.exports.proofs.Values.{no_nan, beyond}
use Rattle.exports.proofs.fields.in_bounds.Goals as goal

pub float_to_bits-x : goal.float_to_bits-x
float_to_bits-x c = no_nan _ c.requires.0.number

pub returns-then-exponent-ge150 : goal.returns-then-exponent-ge150
returns-then-exponent-ge150 c = let e = c.exponent.ensures in sym (beyond _ _ c.requires.1 c.requires.0 (omega arith))

pub returns-then-field-value : goal.returns-then-field-value
unfolding in_bounds units ◌and◌
returns-then-field-value c =
    let f = c.requires.1 in
    let v = c.scaled-value.ensures in
    let t = rw (to_z-of_z f.lo_held, to_z-of_z v.1) at c.if-field-value.true in
    rw (to_z-of_z f.hi_held, to_z-of_z v.1, ← v.0, t)

pub returns-else-field-value : goal.returns-else-field-value
unfolding in_bounds units ◌and◌
returns-else-field-value c =
    let f = c.requires.1 in
    let v = c.scaled-value.ensures in
    let t = rw (to_z-of_z f.lo_held, to_z-of_z v.1) at c.if-field-value.false in
    rw (to_z-of_z f.lo_held, to_z-of_z v.1, ← v.0, t)
