-- The slice is what pass C has made of it up to second j, which is in the closing run and not the trip's first.
use Rattle.rules.proofs.Offered.{ℕ, suc, ◌≡◌, List, length, pass, slowing}
use Rattle.trips.specs.Trip.{RunFrom}
use Rattle.trips.proofs.slowing.pass_c.Given as goal

abbrev pub invariant-loop-j : goal.invariant-loop-j
invariant-loop-j l = (us : List ℕ) → length us ≡ suc (length l.hs) → RunFrom us l.run → l.gs ≡ pass (slowing l.car us l.hs) l.j l.fn.gs
