-- The powers of the points up to i are there.
use Rattle.std.proofs.Common.{◌≡◌}
use Rattle.gears.proofs.Derating.{powers_to}
use Rattle.gears.proofs.curve.derate.Given as goal

abbrev pub invariant-loop-i : goal.invariant-loop-i
invariant-loop-i l = l.powers ≡ powers_to l.car l.i l.initial.powers
