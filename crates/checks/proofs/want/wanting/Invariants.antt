use Rattle.std.proofs.Common.{◌≤◌, ◌-◌}
use Rattle.checks.specs.Asked.{speeds_in, holds_in}
use Rattle.checks.proofs.Dry.{Dry}
use Rattle.checks.proofs.want.wanting.Given as goal

-- each first choice before second `i` is a gear
abbrev pub invariant-loop-i : goal.invariant-loop-i
invariant-loop-i l = record {
  since : l.trip.lo ≤ l.i;
  until : l.i ≤ l.trip.hi;
  dry : Dry l.powered.car.now (speeds_in l.trace) (holds_in l.trace) l.trip.lo l.i l.before;
}

abbrev pub decreases-loop-i : goal.decreases-loop-i
decreases-loop-i l = l.trip.hi - l.i
