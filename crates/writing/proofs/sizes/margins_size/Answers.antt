-- Before version 2 there are none.
use Rattle.writing.proofs.BytesLeft.{margins_late, margins_early}
use Rattle.writing.proofs.sizes.margins_size.Goals as goal

pub returns-then-version-lt2-clause-size : goal.returns-then-version-lt2-clause-size
returns-then-version-lt2-clause-size c = rw (margins_early _ c.args.margins.now c.if-version-lt2.true)

pub returns-clause-size : goal.returns-clause-size
returns-clause-size c = rw (margins_late _ c.args.margins.now c.if-version-lt2.false) c.values_size.ensures.size
