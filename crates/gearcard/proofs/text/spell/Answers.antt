-- Digit before digit.
use Rattle.rules.proofs.Offered.{arith}
use Rattle.gearcard.proofs.TextInTurn.{spell_begins, spell-place, spell-more, spell_last}
use Rattle.gearcard.proofs.text.spell.Goals as goal

pub loop-rest-init : goal.loop-rest-init
loop-rest-init c = spell_begins _ _ c.requires (omega arith)

pub overflow_sub-i : goal.overflow_sub-i
overflow_sub-i c = omega (arith, spell-place c.loop-rest.invariant (omega arith))

pub loop-rest-preserved : goal.loop-rest-preserved
loop-rest-preserved c = spell-more c.loop-rest.invariant c.digit.ensures (omega arith)

pub returns : goal.returns
returns c = spell_last c.loop-rest.invariant c.digit-2.ensures (omega arith)
