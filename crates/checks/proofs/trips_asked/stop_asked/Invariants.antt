use Rattle.std.proofs.Common.{◌≡◌}
use Rattle.rules.specs.Units.{stop}
use Rattle.checks.specs.Asked.{speeds_in}
use Rattle.checks.proofs.trips_asked.stop_asked.Given as goal

-- the trip of `k` ends where that of `i` does
abbrev pub invariant-loop-k : goal.invariant-loop-k
invariant-loop-k l = stop (speeds_in l.trace) l.i ≡ stop (speeds_in l.trace) l.k
