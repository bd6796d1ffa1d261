-- The count, and the values after it.
use Rattle.reading.proofs.PutInTurn.{put_both}
use Rattle.writing.proofs.put_groups.put_counted.Goals as goal

pub returns : goal.returns
returns c = put_both c.put_group-first.ensures c.put_values.ensures
