-- An exponent's field of 255 is an infinity or a NaN, and none other is.
use Rattle.rules.proofs.Offered.{arith, ◌<◌, ◌≤◌, ◌%◌, ◌+◌, length, sym, ◌∙◌, le-ltb, nan_bits_above}
use Rattle.exports.specs.Floats.{float_of}
use Rattle.exports.specs.Bits.{exponent}
use Rattle.exports.proofs.RecordAnswers.{comes, float_short, float-bad, float_good}
use Rattle.exports.proofs.records.float_at.Goals as goal
use Rattle.exports.proofs.records.float_at.Goals.{then-end-at-via-then-end-at, then-end-at-via-else-end-at+then-end-at-2}

pub returns-then-end-at-clause-said : goal.returns-then-end-at-clause-said
returns-then-end-at-clause-said c =
    let h : length c.args.bytes.now < c.args.at + 4 = elim c.then-end-at.branch [
      | then-end-at-via-then-end-at w ↦ omega arith
      | then-end-at-via-else-end-at+then-end-at-2 w ↦ omega arith
    ] in
    float_short _ _ _ h

pub returns-then-exponent-eq255-clause-said : goal.returns-then-exponent-eq255-clause-said
returns-then-exponent-eq255-clause-said c =
    float-bad _ _ _ (omega arith) (rw (← c.bits_at-bits.ensures) (sym c.exponent.ensures.0 ∙ c.if-exponent-eq255.true))

pub float_from_bits-result : goal.float_from_bits-result
unfolding exponent
float_from_bits-result c =
    let b = c.bits_at-bits.result in
    let e = c.exponent.ensures in
    let l : b % 2147483648 ≤ 2139095040 = omega arith in
    rw (nan_bits_above, le-ltb 2139095040 (b % 2147483648) l) tt

pub returns-clause-said : goal.returns-clause-said
unfolding float_of
returns-clause-said c =
    let b = c.bits_at-bits in
    let e = c.exponent.ensures in
    let l : exponent b.result < 255 = omega arith in
    rw b.ensures (float_good _ _ _ (omega arith) (rw b.ensures at l))

pub returns-clause-finite : goal.returns-clause-finite
unfolding float_of
returns-clause-finite c =
    let e = c.exponent.ensures in
    let l : exponent c.bits_at-bits.result < 255 = omega arith in
    comes _ l
