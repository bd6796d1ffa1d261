-- The pieces of the vehicle's bytes, put one after another.
use Rattle.rules.proofs.Offered.{arith, refl}
use Rattle.reading.proofs.PutInTurn.{put_both}
use Rattle.writing.proofs.Bytes.{vehicle-bytes, vehicle-length}
use Rattle.writing.proofs.put_groups.put_vehicle.Goals as goal

pub put_since-gears-requires : goal.put_since-gears-requires
put_since-gears-requires c = omega (arith, vehicle-length c.args.version c.args.car.now refl (omega arith) refl)

pub put_counted-middle-requires : goal.put_counted-middle-requires
put_counted-middle-requires c = omega (arith, vehicle-length c.args.version c.args.car.now c.from.ensures (omega arith) refl)

pub put_values-curve-requires : goal.put_values-curve-requires
put_values-curve-requires c = omega (arith, vehicle-length c.args.version c.args.car.now c.from.ensures (omega arith) c.numbers_between.ensures)

pub put_group-first-requires : goal.put_group-first-requires
put_group-first-requires c = omega (arith, vehicle-length c.args.version c.args.car.now c.from.ensures (omega arith) c.numbers_between.ensures)

pub put_points-requires : goal.put_points-requires
put_points-requires c = omega (arith, vehicle-length c.args.version c.args.car.now c.from.ensures (omega arith) c.numbers_between.ensures)

pub returns : goal.returns
returns c =
    let last = put_both c.put_values-curve.ensures (put_both c.put_group-first.ensures c.put_points.ensures) in
    rw (vehicle-bytes c.args.version c.args.car.now c.from.ensures (omega arith) c.numbers_between.ensures)
    (put_both c.put_since-gears.ensures (put_both c.put_counted-middle.ensures last))
