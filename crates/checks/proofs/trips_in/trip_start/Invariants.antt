-- The trip of `k` begins where that of `i` does.
use Rattle.std.proofs.Common.{◌≡◌}
use Rattle.rules.specs.Units.{start}
use Rattle.checks.proofs.trips_in.trip_start.Given as goal

abbrev pub invariant-loop-k : goal.invariant-loop-k
invariant-loop-k l = start l.speeds l.i ≡ start l.speeds l.k
