use Rattle.rules.proofs.Offered.{arith}
use Rattle.cards.proofs.Reworking.{swept_none, swept_at, swept_more, swept_less, swept_all}
use Rattle.cards.proofs.rework.sweep.Goals as goal

pub loop-i-init : goal.loop-i-init
loop-i-init c = swept_none c.requires.0

pub stretch-i-requires : goal.stretch-i-requires
unfolding swept_at
stretch-i-requires c = (swept_at c.requires.0 c.loop-i.invariant (omega arith), c.requires.1)

pub loop-i-smaller : goal.loop-i-smaller
loop-i-smaller c = rw c.stretch-i.ensures.next (swept_less c.args.speeds.now c.loop-i.i c.args.range.hi (omega arith))

pub loop-i-preserved : goal.loop-i-preserved
loop-i-preserved c = swept_more c.requires.0 c.loop-i.invariant (omega arith) c.stretch-i.ensures.next c.stretch-i.ensures.worked

pub returns : goal.returns
returns c = swept_all c.requires.0 c.loop-i.invariant (omega arith)
