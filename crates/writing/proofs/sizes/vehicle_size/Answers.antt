-- The parts make the whole, of which the points are as long as their columns.
use Rattle.rules.proofs.Offered.{arith}
use Rattle.writing.proofs.Bytes.{points-length, vehicle-length}
use Rattle.writing.proofs.sizes.vehicle_size.Goals as goal

pub returns-clause-size : goal.returns-clause-size
returns-clause-size c =
    let car = c.args.car.now in
    omega (
      arith,
      vehicle-length c.args.version car c.from.ensures (omega arith) c.numbers_between.ensures,
      points-length c.args.version car c.from-points.ensures (omega arith) (omega arith) (omega arith),
    )
