-- The sum is cut off at both ends.
use Rattle.rules.proofs.Offered.{rules, settled}
use Rattle.summaries.proofs.settle.settled.Goals as goal

pub returns : goal.returns
unfolding settled
returns c = search rules
