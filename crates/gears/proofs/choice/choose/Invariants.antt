-- `gears::choice::choose`: before each turn the gears above `g` have been tried.
use Rattle.rules.proofs.Offered.{◌+◌, ◌≤◌, ◌<◌, false, low, role_of}
use Rattle.gears.proofs.Choices.{Tried}
use Rattle.gears.proofs.choice.choose.Given as goal

abbrev pub invariant-loop-search : goal.invariant-loop-search
invariant-loop-search l = record {
  from : low l.search.powered.car.now ≤ l.g;
  to : l.g ≤ l.search.powered.car.now.ng;
  segment : l.segment + 1 < l.search.powered.car.now.points;
  tried : Tried l.search.powered.car.now (role_of l.search.powered.car.now false l.closes l.before) l.v l.fn.d l.g l.best;
}

abbrev pub decreases-loop-search : goal.decreases-loop-search
decreases-loop-search l = l.g
