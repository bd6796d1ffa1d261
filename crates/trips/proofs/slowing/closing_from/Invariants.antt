-- Every second from j on is in the closing run.
use Rattle.trips.proofs.Closing.{Closing}
use Rattle.trips.proofs.slowing.closing_from.Given as goal

abbrev pub invariant-loop-j : goal.invariant-loop-j
invariant-loop-j l = Closing l.us l.j
