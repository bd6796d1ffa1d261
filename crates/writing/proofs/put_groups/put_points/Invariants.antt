-- The bytes of the points that are left, put from here, make all.
use Rattle.rules.specs.Job.{points_of}
use Rattle.writing.specs.Writing.{points_bytes}
use Rattle.reading.proofs.PutInTurn.{LeftToPut}
use Rattle.writing.proofs.BytesLeft.{points_left}
use Rattle.writing.proofs.put_groups.put_points.Given as goal

abbrev pub invariant-loop-i : goal.invariant-loop-i
invariant-loop-i l =
    LeftToPut l.fn.room l.at (points_bytes l.version (points_of l.car.points l.car.n l.car.p l.car.m)) l.room l.next (points_left l.version l.car l.i)
