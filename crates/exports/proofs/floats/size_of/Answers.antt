-- The product is below 2^41, and what is shifted away is less than a half.
use Rattle.rules.proofs.Offered.{arith, ◌*◌, sym, ◌∙◌}
use Rattle.exports.specs.Bits.{size_of}
use Rattle.exports.proofs.Sizes.{product_low, tiny_size, rounded, sum_low, rounded_low}
use Rattle.exports.proofs.floats.size_of.Goals as goal

pub returns-then-places-gt60 : goal.returns-then-places-gt60
returns-then-places-gt60 c =
    let q = c.significand.ensures in
    let t = c.shift-places.ensures in
    let m = product_low c.args.scale c.significand.result (omega arith) (omega arith) in
    (sym (tiny_size c.args.scale c.args.bits (rw (← q.0) m) (omega arith)), omega arith)

pub returns : goal.returns
unfolding size_of
returns c =
    let a = c.args.scale * c.significand.result in
    let m = product_low c.args.scale c.significand.result (omega arith) (omega arith) in
    let n = sum_low a c.shift-places.result m (omega arith) in (
      rounded a c.shift-places.result (omega arith) ∙ rw (c.significand.ensures.0, c.shift-places.ensures.0),
      rounded_low _ c.shift-places.result n,
    )
