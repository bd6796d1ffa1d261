-- One law for each `return`.
use Rattle.rules.proofs.Offered.{sym, handed_up}
use Rattle.reading.proofs.StageAnswers.{gearbox_stops, gears_fit, so_many_gears, ratio_stops, gearbox_gives}
use Rattle.reading.proofs.vehicle.gearbox_at.Goals as goal

pub returns-in_default : goal.returns-in_default
returns-in_default c = gearbox_stops _ _ _ (rw c.unwrap_err.ensures at c.bounded-group.ensures)

pub slice_bounds-ratio-end : goal.slice_bounds-ratio-end
slice_bounds-ratio-end c = gears_fit _ _ _ c.in-Ok.ensures c.from.ensures

pub slice_bounds-fill_values-end : goal.slice_bounds-fill_values-end
slice_bounds-fill_values-end c = sym (so_many_gears _ _ _ c.in-Ok.ensures c.from.ensures)

pub returns-in_err-at : goal.returns-in_err-at
returns-in_err-at c = rw (handed_up c.from_residual.ensures.1) (ratio_stops _ _ _ c.in-Ok.ensures c.from.ensures c.in_err-at.ensures)

pub returns : goal.returns
returns c = gearbox_gives _ _ _ c.in-Ok.ensures c.from.ensures c.in_ok-at.ensures
