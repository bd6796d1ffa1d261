-- The seconds from lo up to i are counted.
use Rattle.summaries.proofs.Counting.{Filled}
use Rattle.summaries.proofs.stretch.counts_in.Given as goal

abbrev pub invariant-loop-i : goal.invariant-loop-i
invariant-loop-i l = Filled l.speeds l.card l.fn.span.lo l.counts l.i
