use Rattle.rules.proofs.Offered.{small_i32, to_z-of_z, arith, parts_of}
use Rattle.writing.proofs.numbers.numbers_between.Goals as goal

pub returns : goal.returns
unfolding parts_of
returns c = rw (c.unsigned-f1.ensures, to_z-of_z (small_i32 c.args.car.now.f1 (omega (arith, c.requires))))
