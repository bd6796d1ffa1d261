-- Each turn puts the next of the holds that are left.
use Rattle.rules.proofs.Offered.{arith}
use Rattle.reading.proofs.PutInTurn.{fewer_left, has_space, none_left, said_as, put_none}
use Rattle.writing.proofs.BytesLeft.{held_more, held_end, held_nowhere}
use Rattle.writing.proofs.put_groups.put_held.Goals as goal

pub returns-then-count-eq0 : goal.returns-then-count-eq0
returns-then-count-eq0 c = rw (held_nowhere c.args.holds.now (omega arith)) (put_none (omega arith))

pub put_hold-next-requires : goal.put_hold-next-requires
put_hold-next-requires c =
    let L = c.requires.0 in (
      omega (arith, L.seconds),
      L.gears c.loop-second.second (omega arith),
      has_space _ _ (said_as (held_more c.args.holds.now c.loop-second.second (omega arith)) c.loop-second.invariant),
    )

pub loop-second-preserved : goal.loop-second-preserved
loop-second-preserved c =
    fewer_left (said_as (held_more c.args.holds.now c.loop-second.second (omega arith)) c.loop-second.invariant) c.put_hold-next.ensures

pub returns : goal.returns
returns c = none_left (said_as (held_end c.args.holds.now c.loop-second.second (omega arith)) c.loop-second.invariant)
