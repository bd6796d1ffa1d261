-- 0 as a gear above all, any other gear as it is.
use Rattle.rules.proofs.Offered.{eq-eqb, ne_eqb}
use Rattle.edits.specs.Asks.{over_all, gear_asked}
use Rattle.edits.proofs.asking.gear_asked.Goals as goal

pub returns-then-gear-eq0 : goal.returns-then-gear-eq0
unfolding gear_asked over_all
returns-then-gear-eq0 c = rw (eq-eqb _ _ c.if-gear-eq0.true)

pub returns-else-gear-eq0 : goal.returns-else-gear-eq0
unfolding gear_asked over_all
returns-else-gear-eq0 c = rw (ne_eqb _ _ c.if-gear-eq0.false)
