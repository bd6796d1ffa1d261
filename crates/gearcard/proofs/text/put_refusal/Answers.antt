-- Five pieces in a row; the number has at most 10 digits, the place at most 20.
use Rattle.rules.proofs.Offered.{arith, refusal_text, tens, decimal_short}
use Rattle.reading.proofs.PutInTurn.{put_both}
use Rattle.gearcard.proofs.text.put_refusal.Goals as goal

pub put_decimal-at-requires : goal.put_decimal-at-requires
unfolding tens
put_decimal-at-requires c =
    omega (arith, decimal_short 9 c.from-number.result (omega (arith, c.from-number.ensures)), decimal_short 19 c.place-spot.result (omega arith))

pub put-at-requires-2 : goal.put-at-requires-2
unfolding tens
put-at-requires-2 c =
    omega (arith, decimal_short 9 c.from-number.result (omega (arith, c.from-number.ensures)), decimal_short 19 c.place-spot.result (omega arith))

pub put_decimal-at-requires-2 : goal.put_decimal-at-requires-2
unfolding tens
put_decimal-at-requires-2 c =
    omega (arith, decimal_short 9 c.from-number.result (omega (arith, c.from-number.ensures)), decimal_short 19 c.place-spot.result (omega arith))

pub put-requires : goal.put-requires
unfolding tens
put-requires c =
    omega (arith, decimal_short 9 c.from-number.result (omega (arith, c.from-number.ensures)), decimal_short 19 c.place-spot.result (omega arith))

pub returns : goal.returns
unfolding refusal_text
returns c =
    rw (← c.number.ensures, ← c.place-spot.ensures, ← c.from-number.ensures)
    (put_both c.put-at.ensures
    (put_both c.put_decimal-at.ensures (put_both c.put-at-2.ensures (put_both c.put_decimal-at-2.ensures c.put.ensures))))
