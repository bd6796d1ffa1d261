-- The digits of the rest, and those that stand behind, make the number.
use Rattle.gearcard.proofs.TextInTurn.{Spelt}
use Rattle.gearcard.proofs.text.spell.Given as goal

abbrev pub invariant-loop-rest : goal.invariant-loop-rest
invariant-loop-rest l = Spelt l.n l.digits l.i l.rest

abbrev pub decreases-loop-rest : goal.decreases-loop-rest
decreases-loop-rest l = l.rest
