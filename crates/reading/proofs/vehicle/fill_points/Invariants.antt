-- The points that are left, put after those that are read, are what was asked.
use Rattle.rules.specs.Forms.{many}
use Rattle.rules.specs.Job.{point}
use Rattle.reading.specs.Progress.{used, into}
use Rattle.reading.proofs.Loops.{Many}
use Rattle.reading.proofs.vehicle.fill_points.Given as goal

abbrev pub invariant-loop-i : goal.invariant-loop-i
invariant-loop-i l =
    Many (point l.version) l.job l.count l.i l.next (into l.ns l.ps l.ms l.i)
    (used (into l.fn.ns l.fn.ps l.fn.ms 0) (many (point l.version) l.count) l.job l.at)
