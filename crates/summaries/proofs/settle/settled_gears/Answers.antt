use Rattle.rules.proofs.Offered.{arith}
use Rattle.summaries.proofs.Settling.{settled_more, settled_done}
use Rattle.summaries.proofs.settle.settled_gears.Goals as goal

pub loop-k-preserved : goal.loop-k-preserved
loop-k-preserved c = settled_more _ _ _ c.loop-k.k (omega arith) c.loop-k.invariant c.settled.ensures

pub returns : goal.returns
returns c = settled_done _ _ _ c.loop-k.k c.loop-k.invariant (omega arith)
