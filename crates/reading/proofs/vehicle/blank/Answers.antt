-- Each place of its arrays is 0.
use Rattle.rules.proofs.Offered.{refl, vehicle_of, padded, job_of}
use Rattle.reading.proofs.vehicle.blank.Goals as goal

pub returns : goal.returns
unfolding job_of vehicle_of padded
returns c = refl
