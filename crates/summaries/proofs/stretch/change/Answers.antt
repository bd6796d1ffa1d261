use Rattle.rules.proofs.Offered.{rules, ◌and◌}
use Rattle.summaries.proofs.stretch.change.Goals as goal

pub returns : goal.returns
unfolding ◌and◌
returns c = search rules
