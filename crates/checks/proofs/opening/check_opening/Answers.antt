-- The lengths, then the vehicle.
use Rattle.rules.proofs.Offered.{refl, vehicle_fault, bad_field, handed_up}
use Rattle.checks.proofs.Rows.{opening_lengths, opening_vehicle}
use Rattle.checks.proofs.opening.check_opening.Goals as goal

pub returns-in_err-check_lengths : goal.returns-in_err-check_lengths
returns-in_err-check_lengths c = λ vs hs old e f g.
    opening_lengths vs hs old c.args.car.now (c.in_err-check_lengths.ensures vs hs old e f g) refl (handed_up c.from_residual.ensures.1)

pub returns : goal.returns
unfolding vehicle_fault bad_field
returns c = λ vs hs old e f g. opening_vehicle vs hs old c.args.car.now _ (c.in_ok-check_lengths.ensures vs hs old e f g) refl c.check_vehicle.ensures
