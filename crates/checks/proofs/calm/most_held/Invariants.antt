-- What is kept is the highest of the holds so far.
use Rattle.std.proofs.Common.{◌≡◌, ◌-◌}
use Rattle.rules.specs.Words.{at}
use Rattle.checks.specs.Calm.{most_of}
use Rattle.checks.proofs.calm.most_held.Given as goal

abbrev pub invariant-loop-i : goal.invariant-loop-i
invariant-loop-i l = l.most ≡ most_of (at l.holds) l.fn.span.lo (l.i - l.fn.span.lo)
