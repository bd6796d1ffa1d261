-- Each turn puts the next of the speeds that are left.
use Rattle.rules.proofs.Offered.{arith}
use Rattle.reading.proofs.PutInTurn.{fewer_left, has_space, none_left, said_as}
use Rattle.writing.proofs.BytesLeft.{values_left, values_end}
use Rattle.writing.proofs.put_groups.put_speeds.Goals as goal

pub put_short-next-requires : goal.put_short-next-requires
put_short-next-requires c =
    let l = said_as (values_left c.args.speeds.now c.loop-v.v-index (omega arith)) c.loop-v.invariant in
    (c.requires.0.each c.loop-v.v-index (omega arith), has_space _ _ l)

pub loop-v-preserved : goal.loop-v-preserved
loop-v-preserved c =
    fewer_left (said_as (values_left c.args.speeds.now c.loop-v.v-index (omega arith)) c.loop-v.invariant) c.put_short-next.ensures

pub returns : goal.returns
returns c = none_left (said_as (values_end c.args.speeds.now c.loop-v.v-index (omega arith)) c.loop-v.invariant)
