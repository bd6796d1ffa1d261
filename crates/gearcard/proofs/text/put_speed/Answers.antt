-- Three pieces in a row.
use Rattle.reading.proofs.PutInTurn.{put_both}
use Rattle.gearcard.proofs.text.put_speed.Goals as goal

pub returns : goal.returns
returns c = rw (c.from.ensures, c.from-2.ensures) at (put_both c.put_decimal-dot.ensures (put_both c.put-tenth.ensures c.put_decimal.ensures))
