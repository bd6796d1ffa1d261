-- What a second adds to the count is what it takes from those that are left.
use Rattle.rules.proofs.Offered.{arith, at}
use Rattle.writing.proofs.BytesLeft.{held_count, held_nought, one_short}
use Rattle.writing.proofs.sizes.held_from.Goals as goal

pub loop-i-preserved : goal.loop-i-preserved
loop-i-preserved c =
    omega (arith, one_short (at c.args.holds.now c.loop-i.i), held_count c.args.holds.now c.loop-i.i c.loop-i-test.true)

pub returns : goal.returns
returns c = omega (arith, held_nought c.args.holds.now c.loop-i.i (omega arith))
