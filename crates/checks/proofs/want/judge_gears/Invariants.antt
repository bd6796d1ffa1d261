use Rattle.std.proofs.Common.{◌≡◌, ◌≤◌, ◌<◌, ◌-◌, false}
use Rattle.rules.specs.Words.{at, first}
use Rattle.rules.specs.Units.{moving}
use Rattle.rules.specs.Refusals.{no-gear, bad}
use Rattle.rules.proofs.Offered.{Left}
use Rattle.checks.specs.Asked.{speeds_in, holds_in}
use Rattle.checks.proofs.want.judge_gears.Given as goal

-- what is left of the search, from second `a` on, is what was asked, and the second before `a` stands
abbrev pub invariant-loop-a : goal.invariant-loop-a
invariant-loop-a l =
    let wants = bad no-gear l.powered.car.now (speeds_in l.trace) (holds_in l.trace) l.span.lo in record {
      since : l.span.lo < l.a;
      until : l.a ≤ l.span.hi;
      stands : moving (at (speeds_in l.trace) (l.a - 1)) ≡ false;
      left : Left wants l.a l.span.hi (first wants l.span.lo (l.span.hi - l.span.lo));
    }

abbrev pub decreases-loop-a : goal.decreases-loop-a
decreases-loop-a l = l.span.hi - l.a
