-- No second, so every count is 0.
use Rattle.rules.proofs.Offered.{refl, table, tally}
use Rattle.summaries.specs.Tallies.{tallied}
use Rattle.summaries.proofs.stretch.none_counted.Goals as goal

pub returns : goal.returns
unfolding tallied tally table
returns c = refl
