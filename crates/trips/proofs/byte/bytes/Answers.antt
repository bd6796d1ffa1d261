use Rattle.rules.proofs.Offered.{ap, ◌∙◌, ◌≡◌, arith, le_refl, at, pass_later, byte}
use Rattle.trips.proofs.Passes.{pass-start, pass-more, pass-table}
use Rattle.trips.proofs.Along.{along_end}
use Rattle.trips.proofs.byte.bytes.Goals as goal

pub loop-j-init : goal.loop-j-init
loop-j-init c = pass-start _ _

pub trip_byte-requires : goal.trip_byte-requires
trip_byte-requires c =
    let j = c.loop-j.j in
    let same : at c.loop-j.gs j ≡ at c.args.gs.now j = ap (λ gs. at gs j) c.loop-j.invariant ∙ pass_later _ c.args.gs.now j j (le_refl j) in
    (omega (arith, c.requires.speeds), rw same (c.requires.gear j (omega arith)), omega (arith, c.from-idle.ensures))

pub loop-j-preserved : goal.loop-j-preserved
loop-j-preserved c = pass-more _ _ _ _ _ c.loop-j.invariant c.trip_byte.ensures

pub returns : goal.returns
returns c = along_end _ _ c.loop-j.invariant (omega arith) (omega arith) ∙ pass-table (byte c.args.car.now c.args.us.now) c.args.gs.now
