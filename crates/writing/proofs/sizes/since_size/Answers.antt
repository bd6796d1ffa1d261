-- Before the first version that has the value there is none.
use Rattle.writing.proofs.BytesLeft.{since_late, since_early}
use Rattle.writing.proofs.sizes.since_size.Goals as goal

pub returns-then-version-first-clause-size : goal.returns-then-version-first-clause-size
returns-then-version-first-clause-size c = rw (since_early _ _ c.args.v c.if-version-first.true)

pub returns-clause-size : goal.returns-clause-size
returns-clause-size c = rw (since_late _ _ c.args.v c.if-version-first.false) c.group_size.ensures.size
