-- At each `return` the form is known, and its bytes were put one after another.
use Rattle.rules.proofs.Offered.{arith, ap, length, form-one, form_two, form_size}
use Rattle.reading.proofs.PutInTurn.{put_both}
use Rattle.writing.proofs.put_groups.put_short.Goals as goal

pub put_byte-requires : goal.put_byte-requires
put_byte-requires c = omega (arith, (form_size c.args.v).0)

pub returns-then-v-lt128 : goal.returns-then-v-lt128
returns-then-v-lt128 c = rw (form-one c.args.v (omega arith)) c.put_byte.ensures

pub put_byte-second-requires : goal.put_byte-second-requires
put_byte-second-requires c = omega (arith, (form_size c.args.v).0)

pub put_byte-requires-2 : goal.put_byte-requires-2
put_byte-requires-2 c = omega (arith, ap length (form_two c.args.v (omega arith) (omega arith)))

pub returns : goal.returns
returns c = rw (form_two c.args.v (omega arith) (omega arith)) (put_both c.put_byte-second.ensures c.put_byte-2.ensures)
