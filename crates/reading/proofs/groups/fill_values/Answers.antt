-- The loop's ways on.
use Rattle.rules.proofs.Offered.{arith}
use Rattle.reading.proofs.Loops.{fill_begins, value_stops, fill_again, ends}
use Rattle.reading.proofs.groups.fill_values.Goals as goal

pub loop-value-init : goal.loop-value-init
loop-value-init c = fill_begins _ _ _

pub returns-in_default : goal.returns-in_default
returns-in_default c = value_stops c.loop-value.invariant (omega arith) (rw c.unwrap_err.ensures at c.group_at-group.ensures)

pub loop-value-preserved : goal.loop-value-preserved
loop-value-preserved c = fill_again c.loop-value.invariant (omega arith) c.in-Ok.ensures

pub returns : goal.returns
returns c = ends c.loop-value.invariant (omega arith)
