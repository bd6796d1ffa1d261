-- `rules::moving` meets its contract: moving is from 1 km/h on.
use mathlib.Core.Path.{refl}
use Rattle.rules.specs.Units.{moving}
use Rattle.rules.proofs.moving.Goals as goal

pub returns : goal.returns
unfolding moving
returns c = refl
