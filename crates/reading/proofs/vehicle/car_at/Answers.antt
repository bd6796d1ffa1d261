-- One law for each `return`, by what was read before it.
use Rattle.rules.proofs.Offered.{handed_up}
use Rattle.reading.proofs.StageAnswers.{profile_in, version_stops, profile_stops, gears-stop, numbers-stop, curve-stops, car_gives}
use Rattle.reading.proofs.vehicle.car_at.Goals as goal

pub returns-in_default : goal.returns-in_default
returns-in_default c = version_stops _ 0 (rw c.unwrap_err.ensures at c.bounded-group.ensures)

pub returns-in_default-group : goal.returns-in_default-group
returns-in_default-group c = profile_stops _ 0 c.in-Ok.ensures (rw c.unwrap_err-in_default-group.ensures at c.profile_at-group.ensures)

pub gearbox_at-requires : goal.gearbox_at-requires
gearbox_at-requires c = profile_in _ _ _ c.in-Ok-group.ensures

pub returns-in_err-gearbox : goal.returns-in_err-gearbox
returns-in_err-gearbox c =
    rw (handed_up c.from_residual.ensures.1) (gears-stop _ 0 c.in-Ok.ensures c.in-Ok-group.ensures c.in_err-gearbox.ensures)

pub returns-in_err-at : goal.returns-in_err-at
returns-in_err-at c =
    rw (handed_up c.from_residual-in_err-at.ensures.1)
    (numbers-stop _ 0 c.in-Ok.ensures c.in-Ok-group.ensures c.in_ok-gearbox.ensures c.in_err-at.ensures)

pub returns-in_err-curve : goal.returns-in_err-curve
returns-in_err-curve c =
    rw (handed_up c.from_residual-in_err-curve.ensures.1)
    (curve-stops _ 0 c.in-Ok.ensures c.in-Ok-group.ensures c.in_ok-gearbox.ensures c.in_ok-at.ensures c.in_err-curve.ensures)

pub returns : goal.returns
returns c =
    rw c.vehicle_of-vehicle.ensures
    (car_gives _ 0 c.in-Ok.ensures c.in-Ok-group.ensures c.in_ok-gearbox.ensures c.in_ok-at.ensures c.in_ok-curve.ensures)
