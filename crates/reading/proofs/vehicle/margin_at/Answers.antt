-- Before version 2 no group is read.
use Rattle.rules.proofs.Offered.{value}
use Rattle.reading.proofs.GroupAnswers.{not_yet, from_then_on}
use Rattle.reading.proofs.vehicle.margin_at.Goals as goal

pub returns-then-version-lt2 : goal.returns-then-version-lt2
returns-then-version-lt2 c = not_yet value _ _ _ _ c.if-version-lt2.true

pub returns : goal.returns
unfolding value
returns c = from_then_on value _ _ _ _ c.if-version-lt2.false c.group_at.ensures
