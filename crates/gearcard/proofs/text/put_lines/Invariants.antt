-- The lines of the first i seconds are put.
use Rattle.gearcard.proofs.TextInTurn.{Lined}
use Rattle.gearcard.proofs.text.put_lines.Given as goal

abbrev pub invariant-loop-i : goal.invariant-loop-i
invariant-loop-i l = Lined l.speeds l.card l.initial.out l.at l.out l.next l.i
