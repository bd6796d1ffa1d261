-- Four pieces in a row.
use Rattle.rules.proofs.Offered.{arith}
use Rattle.reading.proofs.PutInTurn.{put_both}
use Rattle.gearcard.proofs.TextInTurn.{line_is, line_lengths}
use Rattle.gearcard.proofs.text.put_line.Goals as goal

pub put_decimal-blank-requires : goal.put_decimal-blank-requires
put_decimal-blank-requires c = omega (arith, line_lengths c.args.i c.args.v c.args.byte)

pub put-speed-requires : goal.put-speed-requires
put-speed-requires c = omega (arith, line_lengths c.args.i c.args.v c.args.byte)

pub put_speed-gear-requires : goal.put_speed-gear-requires
put_speed-gear-requires c = omega (arith, line_lengths c.args.i c.args.v c.args.byte)

pub put_gear-requires : goal.put_gear-requires
put_gear-requires c = omega (arith, line_lengths c.args.i c.args.v c.args.byte)

pub returns : goal.returns
returns c =
    rw (line_is c.args.i c.args.v c.args.byte)
    (put_both c.put_decimal-blank.ensures (put_both c.put-speed.ensures (put_both c.put_speed-gear.ensures c.put_gear.ensures)))
