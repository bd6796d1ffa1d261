-- The slice holds the first choices up to second j.
use Rattle.rules.proofs.Offered.{ℕ, ◌+◌, ◌<◌, Bool, List}
use Rattle.trips.specs.Trip.{WayTo}
use Rattle.trips.proofs.work.later_choices.Given as goal

abbrev pub invariant-loop-j : goal.invariant-loop-j
invariant-loop-j l = record {
  segment : l.before.segment + 1 < l.powered.car.now.points;
  way : (begins : Bool) (was : ℕ) (base : List ℕ) → WayTo l.powered.car.now l.us l.hs l.run begins was base l.fn.gs l.last l.from
      → WayTo l.powered.car.now l.us l.hs l.run begins was base l.gs l.before.gear l.j;
}
