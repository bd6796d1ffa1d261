-- Before the first version that has the value nothing is put.
use Rattle.rules.proofs.Offered.{arith}
use Rattle.reading.proofs.PutInTurn.{put_none}
use Rattle.writing.proofs.BytesLeft.{since_late, since_early}
use Rattle.writing.proofs.put_groups.put_since.Goals as goal

pub returns-then-version-first : goal.returns-then-version-first
returns-then-version-first c = rw (since_early _ _ c.args.v c.if-version-first.true) (put_none (omega arith))

pub put_group-requires : goal.put_group-requires
put_group-requires c = rw (since_late _ _ c.args.v c.if-version-first.false) at c.requires

pub returns : goal.returns
returns c = rw (since_late _ _ c.args.v c.if-version-first.false) c.put_group.ensures
