-- The bytes of the values that are left, put from here, make all.
use Rattle.std.proofs.Common.{drop}
use Rattle.writing.specs.Writing.{values_bytes}
use Rattle.reading.proofs.PutInTurn.{LeftToPut}
use Rattle.writing.proofs.put_groups.put_values.Given as goal

abbrev pub invariant-loop-v : goal.invariant-loop-v
invariant-loop-v l = LeftToPut l.fn.room l.at (values_bytes l.values) l.room l.next (values_bytes (drop l.v-index l.values))
