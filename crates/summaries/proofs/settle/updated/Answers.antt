-- Each count is settled.
use Rattle.summaries.proofs.Settling.{updated_is}
use Rattle.summaries.proofs.settle.updated.Goals as goal

pub returns : goal.returns
returns c = updated_is _ _ _ c.settled.ensures c.settled_gears.ensures c.settled-2.ensures
