-- Each turn puts the next of the values that are left.
use Rattle.rules.proofs.Offered.{arith}
use Rattle.reading.proofs.PutInTurn.{fewer_left, has_space, none_left, said_as}
use Rattle.writing.proofs.BytesLeft.{values_left, values_end}
use Rattle.writing.proofs.put_groups.put_values.Goals as goal

pub put_group-next-requires : goal.put_group-next-requires
put_group-next-requires c =
    has_space _ _ (said_as (values_left c.args.values.now c.loop-v.v-index (omega arith)) c.loop-v.invariant)

pub loop-v-preserved : goal.loop-v-preserved
loop-v-preserved c =
    fewer_left (said_as (values_left c.args.values.now c.loop-v.v-index (omega arith)) c.loop-v.invariant) c.put_group-next.ensures

pub returns : goal.returns
returns c = none_left (said_as (values_end c.args.values.now c.loop-v.v-index (omega arith)) c.loop-v.invariant)
