-- Past nmax none is read; up to it the search and the reading are the choice's own.
use Rattle.rules.proofs.Offered.{arith, ◌∙◌, low_from}
use Rattle.gears.proofs.Powers.{turned-curve, sized_of}
use Rattle.reasons.proofs.Gears.{power-past, power-read, turns}
use Rattle.reasons.proofs.facts.listed_power.Goals as goal

pub engine-requires : goal.engine-requires
engine-requires c = let l = low_from c.args.powered.car.now in record { from = omega arith; to = omega arith }

pub returns-then-top-engine-clause-power : goal.returns-then-top-engine-clause-power
returns-then-top-engine-clause-power c = power-past c.args.powered.car.now c.args.v c.args.g (omega arith)

pub segment_at-s-requires : goal.segment_at-s-requires
segment_at-s-requires c =
    let b = c.args.powered.in_bounds in
    let l = low_from c.args.powered.car.now in (
      record { from = omega arith; to = omega arith },
      turned-curve b c.args.v c.args.g (turns c.requires b (omega arith)),
      omega (arith, b.points_from),
    )

pub power_at-requires : goal.power_at-requires
power_at-requires c = (turns c.requires c.args.powered.in_bounds (omega arith), c.segment_at-s.ensures)

pub returns-clause-power : goal.returns-clause-power
returns-clause-power c = c.power_at.ensures ∙ power-read c.args.powered.car.now c.args.v c.args.g (omega arith)

pub returns-clause-sized : goal.returns-clause-sized
returns-clause-sized c =
    let b = c.args.powered.in_bounds in
    sized_of b c.args.v c.args.g (turns c.requires b (omega arith)) c.power_at.result c.power_at.ensures
