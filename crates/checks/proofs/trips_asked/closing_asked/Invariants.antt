use Rattle.std.proofs.Common.{suc, ◌-◌}
use Rattle.rules.specs.Words.{part}
use Rattle.trips.proofs.Closing.{Closing}
use Rattle.checks.specs.Asked.{speeds_in}
use Rattle.checks.proofs.trips_asked.closing_asked.Given as goal

-- from second `i` on every second of the trip is in the closing run
abbrev pub invariant-loop-i : goal.invariant-loop-i
invariant-loop-i l = Closing (part (speeds_in l.trace) l.trip.lo (suc l.trip.hi)) (l.i - l.trip.lo)
