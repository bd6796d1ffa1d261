-- The places before i are the table's.
use Rattle.cycles.proofs.Copied.{Copied}
use Rattle.cycles.proofs.filling.copy_in.Given as goal

abbrev pub invariant-loop-i : goal.invariant-loop-i
invariant-loop-i l = Copied l.table l.initial.room l.i l.room
