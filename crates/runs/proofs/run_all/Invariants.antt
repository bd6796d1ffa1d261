-- The line that is read begins before its end.
use Rattle.std.proofs.Common.{◌≤◌}
use Rattle.runs.proofs.run_all.Given as goal

abbrev pub invariant-loop-end : goal.invariant-loop-end
invariant-loop-end g l = l.start ≤ l.end
