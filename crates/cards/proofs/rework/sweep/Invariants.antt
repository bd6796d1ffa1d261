-- The card is right up to a standing second.
use Rattle.rules.proofs.Offered.{◌-◌}
use Rattle.cards.proofs.Reworking.{Swept}
use Rattle.cards.proofs.rework.sweep.Given as goal

abbrev pub invariant-loop-i : goal.invariant-loop-i
invariant-loop-i l = Swept l.powered.car.now l.speeds l.holds l.initial.card l.card l.range.lo l.range.hi l.i

abbrev pub decreases-loop-i : goal.decreases-loop-i
decreases-loop-i l = l.range.hi - l.i
