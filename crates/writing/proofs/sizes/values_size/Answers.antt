-- A value has one byte, and two after it at most.
use Rattle.rules.proofs.Offered.{arith, ap, length, length-append}
use Rattle.writing.proofs.BytesLeft.{values_left, values_end}
use Rattle.writing.proofs.sizes.values_size.Goals as goal

pub loop-v-preserved : goal.loop-v-preserved
loop-v-preserved c =
    let e = simp length-append at (ap length (values_left c.args.values.now c.loop-v.v-index (omega arith))) in
    omega (arith, e)

pub returns-clause-size : goal.returns-clause-size
returns-clause-size c = omega (arith, ap length (values_end c.args.values.now c.loop-v.v-index (omega arith)))
