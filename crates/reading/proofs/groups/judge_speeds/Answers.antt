-- The loop's ways on.
use Rattle.rules.proofs.Offered.{arith}
use Rattle.reading.proofs.Loops.{many_begins, value_stops, value_again, ends}
use Rattle.reading.proofs.groups.judge_speeds.Goals as goal

pub loop-init : goal.loop-init
loop-init c = many_begins _ _ _ _ _

pub returns-in_default : goal.returns-in_default
returns-in_default c = value_stops c.loop.invariant (omega arith) (rw c.unwrap_err.ensures at c.group_at-group.ensures)

pub loop-preserved : goal.loop-preserved
loop-preserved c = value_again c.loop.invariant (omega arith) c.in-Ok.ensures

pub returns : goal.returns
returns c = ends c.loop.invariant (omega arith)
