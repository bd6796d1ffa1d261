-- The trip of `k` ends where that of `i` does.
use Rattle.std.proofs.Common.{◌≡◌}
use Rattle.rules.specs.Units.{stop}
use Rattle.checks.proofs.trips_in.trip_stop.Given as goal

abbrev pub invariant-loop-k : goal.invariant-loop-k
invariant-loop-k l = stop l.speeds l.i ≡ stop l.speeds l.k
