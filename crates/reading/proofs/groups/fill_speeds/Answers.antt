-- The loop's ways on.
use Rattle.rules.proofs.Offered.{arith}
use Rattle.reading.proofs.Loops.{fill_begins, value_comes, fill_again, ends}
use Rattle.reading.proofs.groups.fill_speeds.Goals as goal

pub loop-speed-init : goal.loop-speed-init
loop-speed-init c = fill_begins _ _ _

pub value_at-requires : goal.value_at-requires
value_at-requires c = value_comes c.loop-speed.invariant (omega arith) c.requires

pub loop-speed-preserved : goal.loop-speed-preserved
loop-speed-preserved c = fill_again c.loop-speed.invariant (omega arith) c.value_at.ensures

pub returns : goal.returns
returns c = ends c.loop-speed.invariant (omega arith)
