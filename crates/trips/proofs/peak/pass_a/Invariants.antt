-- The slice is what pass A has made of it up to second j.
use Rattle.rules.proofs.Offered.{◌≡◌, pass, peak}
use Rattle.trips.proofs.peak.pass_a.Given as goal

abbrev pub invariant-loop-j : goal.invariant-loop-j
invariant-loop-j l = l.gs ≡ pass (peak l.car l.us l.hs) l.j l.fn.gs
