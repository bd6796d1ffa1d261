-- The slice is what pass B has made of it up to second j.
use Rattle.rules.proofs.Offered.{◌≡◌, pass, rising}
use Rattle.trips.proofs.rising.pass_b.Given as goal

abbrev pub invariant-loop-j : goal.invariant-loop-j
invariant-loop-j l = l.gs ≡ pass (rising l.car l.us l.hs) l.j l.fn.gs
