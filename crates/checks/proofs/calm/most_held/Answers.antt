-- The highest hold, of none and of one more.
use Rattle.rules.proofs.Offered.{arith, at}
use Rattle.checks.proofs.Calmness.{most_none, most_more}
use Rattle.checks.proofs.calm.most_held.Goals as goal

pub loop-i-init : goal.loop-i-init
loop-i-init c = most_none (at c.args.holds.now) c.args.span.lo c.args.span.lo (omega arith)

pub loop-i-preserved : goal.loop-i-preserved
loop-i-preserved c = most_more (at c.args.holds.now) c.args.span.lo c.loop-i.i (omega arith) c.loop-i.invariant c.max-most.ensures
