-- What each edit asks for.
use Rattle.rules.proofs.Offered.{arith, second}
use Rattle.edits.specs.Asks.{asked_of}
use Rattle.edits.proofs.asking.asked_of.Goals as goal

pub offset_bounds-speeds-second : goal.offset_bounds-speeds-second
unfolding second
offset_bounds-speeds-second c = omega (arith, (rw c.in-Hold.is at c.requires).0)

pub bounds-speeds-second : goal.bounds-speeds-second
unfolding second
bounds-speeds-second c = omega (arith, (rw c.in-Hold.is at c.requires).0)

pub offset_bounds-speeds-second-in-Release : goal.offset_bounds-speeds-second-in-Release
unfolding second
offset_bounds-speeds-second-in-Release c = omega (arith, (rw c.in-Release.is at c.requires).0)

pub bounds-speeds-second-in-Release : goal.bounds-speeds-second-in-Release
unfolding second
bounds-speeds-second-in-Release c = omega (arith, (rw c.in-Release.is at c.requires).0)

pub bounds-holds-second : goal.bounds-holds-second
unfolding second
bounds-holds-second c = omega (arith, (rw c.in-Mend.is at c.requires).1)

pub returns-in-Hold : goal.returns-in-Hold
unfolding asked_of
returns-in-Hold c = rw (c.in-Hold.is, ← c.gear_asked.ensures)

pub returns-in-Release : goal.returns-in-Release
unfolding asked_of
returns-in-Release c = rw c.in-Release.is

pub returns-in-Mend : goal.returns-in-Mend
unfolding asked_of
returns-in-Mend c = rw c.in-Mend.is
