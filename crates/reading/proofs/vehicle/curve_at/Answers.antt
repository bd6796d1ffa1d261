-- One law for each `return`.
use Rattle.rules.proofs.Offered.{arith, handed_up}
use Rattle.reading.proofs.GroupAnswers.{bounded_in}
use Rattle.reading.proofs.StageAnswers.{curve_stops, points_stop, curve_gives}
use Rattle.reading.proofs.vehicle.curve_at.Goals as goal

pub returns-in_default : goal.returns-in_default
returns-in_default c = curve_stops _ _ _ (rw c.unwrap_err.ensures at c.bounded-group.ensures)

pub fill_points-requires : goal.fill_points-requires
fill_points-requires c = let b = bounded_in _ 2 64 3 11 _ c.in-Ok.ensures in omega arith

pub returns-in_err-at : goal.returns-in_err-at
returns-in_err-at c = rw (handed_up c.from_residual.ensures.1)
    (points_stop _ _ _ c.in-Ok.ensures (rw c.from-count.ensures at c.in_err-at.ensures))

pub returns : goal.returns
returns c = curve_gives _ _ _ c.in-Ok.ensures (rw c.from-count.ensures at c.in_ok-at.ensures)
