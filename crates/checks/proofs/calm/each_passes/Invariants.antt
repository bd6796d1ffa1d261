-- Each held second so far passes.
use Rattle.checks.specs.Calm.{Each, HoldsPass}
use Rattle.checks.proofs.calm.each_passes.Given as goal

abbrev pub invariant-loop-i : goal.invariant-loop-i
invariant-loop-i l = Each (HoldsPass l.car l.trace.speeds.now l.trace.holds.now) l.fn.span.lo l.i
