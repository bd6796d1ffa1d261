-- Three bytes, put one after another.
use Rattle.rules.proofs.Offered.{arith, ap, length, form_three}
use Rattle.reading.proofs.PutInTurn.{put_both}
use Rattle.writing.proofs.put_groups.put_group.Goals as goal

pub put_byte-second-requires : goal.put_byte-second-requires
put_byte-second-requires c = omega (arith, ap length (form_three c.args.v (omega arith)))

pub put_byte-third-requires : goal.put_byte-third-requires
put_byte-third-requires c = omega (arith, ap length (form_three c.args.v (omega arith)))

pub put_byte-requires : goal.put_byte-requires
put_byte-requires c = omega (arith, ap length (form_three c.args.v (omega arith)))

pub returns : goal.returns
returns c =
    rw (form_three c.args.v (omega arith)) (put_both c.put_byte-second.ensures (put_both c.put_byte-third.ensures c.put_byte.ensures))
