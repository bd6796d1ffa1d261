-- The bytes of the holds that are left, put from here, make all.
use Rattle.writing.specs.Writing.{pairs_bytes}
use Rattle.reading.proofs.PutInTurn.{LeftToPut}
use Rattle.writing.proofs.BytesLeft.{held_left}
use Rattle.writing.proofs.put_groups.put_held.Given as goal

abbrev pub invariant-loop-second : goal.invariant-loop-second
invariant-loop-second l = LeftToPut l.fn.room l.at (pairs_bytes (held_left l.holds 0)) l.room l.next (pairs_bytes (held_left l.holds l.second))
