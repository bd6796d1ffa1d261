-- Each turn puts the next of the points that are left.
use Rattle.rules.proofs.Offered.{arith}
use Rattle.reading.proofs.PutInTurn.{fewer_left, has_space, none_left, said_as}
use Rattle.writing.proofs.BytesLeft.{points_more, points_end}
use Rattle.writing.proofs.put_groups.put_points.Goals as goal

pub put_group-then-requires : goal.put_group-then-requires
put_group-then-requires c =
    has_space _ _ (said_as (points_more c.args.version c.args.car.now c.loop-i.i (omega arith)) c.loop-i.invariant)

pub put_group-last-requires : goal.put_group-last-requires
put_group-last-requires c =
    let l = said_as (points_more c.args.version c.args.car.now c.loop-i.i (omega arith)) c.loop-i.invariant in
    has_space _ _ (fewer_left l c.put_group-then.ensures)

pub put_since-next-requires : goal.put_since-next-requires
put_since-next-requires c =
    let l = said_as (points_more c.args.version c.args.car.now c.loop-i.i (omega arith)) c.loop-i.invariant in
    has_space _ _ (fewer_left (fewer_left l c.put_group-then.ensures) c.put_group-last.ensures)

pub loop-i-preserved : goal.loop-i-preserved
loop-i-preserved c =
    let l = said_as (points_more c.args.version c.args.car.now c.loop-i.i (omega arith)) c.loop-i.invariant in
    fewer_left (fewer_left (fewer_left l c.put_group-then.ensures) c.put_group-last.ensures) c.put_since-next.ensures

pub returns : goal.returns
returns c = none_left (said_as (points_end c.args.version c.args.car.now c.loop-i.i (omega arith)) c.loop-i.invariant)
