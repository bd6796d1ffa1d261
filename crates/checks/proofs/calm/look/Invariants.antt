-- What is kept is the highest speed, and the largest step, of the seconds so far.
use Rattle.checks.specs.Calm.{Seen}
use Rattle.checks.proofs.calm.look.Given as goal

abbrev pub invariant-loop-i : goal.invariant-loop-i
invariant-loop-i l = Seen l.speeds l.fn.span.lo l.i l.fastest l.steepest
