-- One law for each side of the test.
use Rattle.rules.proofs.Offered.{arith}
use Rattle.gearcard.proofs.TextInTurn.{pedal_down, pedal-up}
use Rattle.gearcard.proofs.text.put_pedal.Goals as goal

pub put-requires : goal.put-requires
put-requires c = omega (arith, rw (pedal_down c.args.byte (omega arith)) at c.requires)

pub returns-then-byte-ge16 : goal.returns-then-byte-ge16
returns-then-byte-ge16 c = rw (pedal_down c.args.byte (omega arith)) c.put.ensures

pub put-requires-2 : goal.put-requires-2
put-requires-2 c = omega (arith, rw (pedal-up c.args.byte (omega arith)) at c.requires)

pub returns : goal.returns
returns c = rw (pedal-up c.args.byte (omega arith)) c.put-2.ensures
