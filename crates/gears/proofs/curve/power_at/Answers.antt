-- The engine speed lies on the curve, and the segment given is read.
use Rattle.rules.proofs.Offered.{◌∙◌}
use Rattle.gears.proofs.Powers.{power_is, turning-segment}
use Rattle.gears.proofs.curve.power_at.Goals as goal

pub on_segment-requires : goal.on_segment-requires
on_segment-requires c = turning-segment c.args.powered.in_bounds _ _ c.requires.0 c.power_speed.ensures c.requires.1

pub returns : goal.returns
returns c =
    let powered = c.args.powered in
    c.on_segment.ensures ∙ power_is powered.in_bounds _ _ c.requires.0 c.power_speed.ensures c.requires.1 _ powered.derated
