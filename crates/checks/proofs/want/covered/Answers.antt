-- `checks::want::covered` meets its contract: the lowest gear is one, so a gear above it has one below.
use Rattle.rules.proofs.Offered.{arith}
use Rattle.checks.proofs.Wanting.{low_some}
use Rattle.checks.proofs.want.covered.Goals as goal

pub overflow_sub-j : goal.overflow_sub-j
overflow_sub-j c = omega (arith, low_some c.args.car.now, c.loop-j.auto.j)
