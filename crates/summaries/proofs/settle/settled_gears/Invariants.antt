-- The first k gears are settled.
use Rattle.summaries.proofs.Settling.{Settled}
use Rattle.summaries.proofs.settle.settled_gears.Given as goal

abbrev pub invariant-loop-k : goal.invariant-loop-k
invariant-loop-k l = Settled l.was l.before l.after l.gears l.k
