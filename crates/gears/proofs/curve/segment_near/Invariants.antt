-- On the way up a segment of the curve, on the way down one that reaches x.
use Rattle.std.proofs.Common.{◌+◌, ◌-◌, ◌*◌, ◌<◌, ◌≤◌}
use Rattle.rules.specs.Words.{at}
use Rattle.gears.proofs.curve.segment_near.Given as goal

abbrev pub invariant-loop-s : goal.invariant-loop-s
invariant-loop-s l = l.s + 1 < l.car.points

abbrev pub decreases-loop-s : goal.decreases-loop-s
decreases-loop-s l = l.car.points - l.s

abbrev pub invariant-loop-s-2 : goal.invariant-loop-s-2
invariant-loop-s-2 l = (l.s + 1 < l.car.points) × (l.x ≤ 1000 * at l.car.n (l.s + 1))

abbrev pub decreases-loop-s-2 : goal.decreases-loop-s-2
decreases-loop-s-2 l = l.s
