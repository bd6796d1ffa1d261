-- The slice holds bytes up to second j, and gears from it on.
use Rattle.rules.proofs.Offered.{◌≡◌, at, pass, byte}
use Rattle.trips.proofs.byte.bytes.Given as goal

abbrev pub invariant-loop-j : goal.invariant-loop-j
invariant-loop-j l = l.gs ≡ pass (λ i rs. byte l.car l.us i (at rs i)) l.j l.fn.gs
