-- Two bytes a hold, and one more for each from second 128 on.
use Rattle.rules.proofs.Offered.{arith, ap, length}
use Rattle.writing.proofs.BytesLeft.{held_nowhere}
use Rattle.writing.proofs.HeldSizes.{held_light}
use Rattle.writing.proofs.sizes.held_size.Goals as goal

pub returns-then-count-eq0-clause-size : goal.returns-then-count-eq0-clause-size
returns-then-count-eq0-clause-size c = omega (arith, ap length (held_nowhere c.args.holds.now (omega arith)))

pub returns-clause-size : goal.returns-clause-size
returns-clause-size c = omega (arith, held_light c.args.holds.now c.requires.0)
