-- Before version 3 no group is read.
use Rattle.rules.proofs.Offered.{arith, bounded, profile}
use Rattle.reading.proofs.GroupAnswers.{not_yet, from_then_on}
use Rattle.reading.proofs.vehicle.profile_at.Goals as goal

pub returns-then-version-lt3 : goal.returns-then-version-lt3
unfolding profile
returns-then-version-lt3 c = not_yet (bounded 0 1 3 1) _ 3 _ _ (omega arith)

pub returns : goal.returns
unfolding profile
returns c = from_then_on (bounded 0 1 3 1) _ 3 _ _ (omega arith) c.bounded.ensures
