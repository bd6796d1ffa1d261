-- The loop's ways on, by what each group of a point gave.
use Rattle.rules.proofs.Offered.{arith, add-one}
use Rattle.reading.proofs.GroupAnswers.{n_stops, p_stops, m_stops, point_gives}
use Rattle.reading.proofs.Loops.{many_begins, ends, stops, again}
use Rattle.reading.proofs.vehicle.fill_points.Goals as goal

pub loop-i-init : goal.loop-i-init
loop-i-init c = many_begins _ _ _ _ _

pub returns-in_default : goal.returns-in_default
returns-in_default c = stops c.loop-i.invariant (omega arith) (n_stops _ _ _ (rw c.unwrap_err.ensures at c.group_at-group.ensures))

pub returns-in_default-group : goal.returns-in_default-group
returns-in_default-group c =
    stops c.loop-i.invariant (omega arith)
    (p_stops _ _ _ c.in-Ok.ensures (rw c.unwrap_err-in_default-group.ensures at c.group_at-group-in-loop-i.ensures))

pub returns-in_default-group-2 : goal.returns-in_default-group-2
returns-in_default-group-2 c =
    stops c.loop-i.invariant (omega arith)
    (m_stops _ _ _ c.in-Ok.ensures c.in-Ok-group.ensures (rw c.unwrap_err-in_default-group-2.ensures at c.margin_at-group.ensures))

pub loop-i-preserved : goal.loop-i-preserved
loop-i-preserved c =
    let hold = point_gives _ _ _ c.in-Ok.ensures c.in-Ok-group.ensures c.in-Ok-group-2.ensures in
    rw add-one (rw add-one at (again c.loop-i.invariant (omega arith) hold))

pub returns : goal.returns
returns c = ends c.loop-i.invariant (omega arith)
