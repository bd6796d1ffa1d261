-- What each call leaves is what the next one finds.
use Rattle.rules.proofs.Offered.{arith}
use Rattle.trips.proofs.Trip.{way_firsts, gears_is, gears_there, bytes_is}
use Rattle.trips.proofs.work.work_trip.Goals as goal

pub bytes-requires : goal.bytes-requires
bytes-requires c =
    let L = c.requires.0.lists in
    let R = c.closing_from-run.ensures in
    let f = way_firsts _ _ _ _ R L.speeds c.args.gs.now L.gears c.first_choices.ensures in
    gears_there _ _ _ (gears_is _ _ _ f c.pass_a.ensures c.pass_b.ensures (c.pass_c.ensures _ L.speeds R)) L.speeds (omega arith) c.requires.1

pub returns : goal.returns
returns c =
    let L = c.requires.0.lists in
    let R = c.closing_from-run.ensures in
    let f = way_firsts _ _ _ _ R L.speeds c.args.gs.now L.gears c.first_choices.ensures in
    bytes_is _ _ _ (gears_is _ _ _ f c.pass_a.ensures c.pass_b.ensures (c.pass_c.ensures _ L.speeds R)) (omega arith) c.bytes.ensures
