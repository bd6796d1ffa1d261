-- What each return says is what the definition refuses.
use Rattle.rules.proofs.Offered.{arith, sym, said}
use Rattle.cycles.proofs.Stretches.{bad-part, short_room, accepted}
use Rattle.cycles.proofs.parts.check_part.Goals as goal

pub returns-then-part-gt4 : goal.returns-then-part-gt4
unfolding said
returns-then-part-gt4 c = sym (bad-part _ _ (omega arith))

pub returns-then-length-lt1801 : goal.returns-then-length-lt1801
unfolding said
returns-then-length-lt1801 c = sym (short_room _ _ (omega arith) (omega arith))

pub returns : goal.returns
unfolding said
returns c = sym (accepted _ _ (omega arith) (omega arith))
