-- `gears::second::required`: E of what it takes.
use Rattle.rules.proofs.Offered.{◌∙◌, to_z-of_z, result}
use Rattle.gears.proofs.second.required.Goals as goal

pub required_on-requires : goal.required_on-requires
required_on-requires c = rw (c.road_of.ensures, to_z-of_z c.ranges.d) c.requires

pub returns : goal.returns
returns c = result c.required_on.type_inv ∙ rw (to_z-of_z c.ranges.d) at (c.required_on.ensures c.args.car.now c.road_of.ensures)
