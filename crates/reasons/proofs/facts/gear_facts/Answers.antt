-- A gear below the lowest, one above ng, and one that is driven.
use Rattle.rules.proofs.Offered.{arith, ◌∙◌, to_z-of_z, gear_facts}
use Rattle.reasons.proofs.Gears.{facts_out, driven_gear, engine_small}
use Rattle.gears.proofs.Tests.{ladders}
use Rattle.reasons.proofs.Nothing.{no_facts_is}
use Rattle.reasons.proofs.facts.gear_facts.Goals as goal

pub returns-then-g-low : goal.returns-then-g-low
unfolding gear_facts
returns-then-g-low c = λ d e. no_facts_is c.default.result c.default.ensures ∙ grind (arith, ladders)

pub driven_facts-requires : goal.driven_facts-requires
driven_facts-requires c =
    let b = c.args.powered.in_bounds in
    let D = driven_gear {car = c.args.powered.car.now} {g = c.args.g} b (omega arith) (omega arith) in
    (D, record { sized = c.listed_power-a.ensures.sized; e_in = rw (to_z-of_z c.ranges.e) c.requires }, engine_small c.args.v b D (omega arith))

pub returns : goal.returns
returns c = λ d e.
    c.driven_facts.ensures d (to_z-of_z c.ranges.e ∙ e) c.listed_power-a.ensures.power
    ∙ facts_out c.args.powered.car.now c.args.here c.args.closes c.args.v d c.args.g (λ z. omega arith) (λ z. omega arith)
