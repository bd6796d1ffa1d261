-- The bytes of the speeds that are left, put from here, make all.
use Rattle.std.proofs.Common.{drop}
use Rattle.writing.specs.Writing.{values_bytes}
use Rattle.reading.proofs.PutInTurn.{LeftToPut}
use Rattle.writing.proofs.put_groups.put_speeds.Given as goal

abbrev pub invariant-loop-v : goal.invariant-loop-v
invariant-loop-v l = LeftToPut l.fn.room l.at (values_bytes l.speeds) l.room l.next (values_bytes (drop l.v-index l.speeds))
