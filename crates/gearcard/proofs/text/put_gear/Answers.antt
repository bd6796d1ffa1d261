-- Three pieces in a row.
use Rattle.reading.proofs.PutInTurn.{put_both}
use Rattle.gearcard.proofs.text.put_gear.Goals as goal

pub returns : goal.returns
returns c = rw c.from.ensures at (put_both c.put-gear.ensures (put_both c.put_decimal-clutch.ensures c.put_pedal.ensures))
