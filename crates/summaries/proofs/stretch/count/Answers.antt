-- The places and the changes are the tally.
use Rattle.summaries.proofs.Counting.{count_done}
use Rattle.summaries.proofs.stretch.count.Goals as goal

pub returns : goal.returns
returns c = count_done c.args.speeds.now c.args.card.now c.args.span.lo c.requires c.counts_in.ensures c.changes_in.ensures
