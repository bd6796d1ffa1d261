-- The leading one stands where the exponent's field is not 0.
use Rattle.rules.proofs.Offered.{arith, sym, ◌∙◌, eq-eqb, ne_eqb}
use Rattle.exports.specs.Bits.{mantissa, significand}
use Rattle.exports.proofs.floats.significand.Goals as goal

pub returns-then-exponent-eq0 : goal.returns-then-exponent-eq0
unfolding significand mantissa
returns-then-exponent-eq0 c = (rw (eq-eqb _ 0 (sym c.exponent.ensures.0 ∙ c.if-exponent-eq0.true)) c.from-digits.ensures, omega arith)

pub returns-else-exponent-eq0 : goal.returns-else-exponent-eq0
unfolding significand mantissa
returns-else-exponent-eq0 c =
    (rw (ne_eqb _ 0 (λ e. c.if-exponent-eq0.false (c.exponent.ensures.0 ∙ e)), c.from-digits.ensures), omega arith)
