-- The cheap test lets through what nothing is wrong with.
use Rattle.rules.proofs.Offered.{said}
use Rattle.checks.proofs.seconds.check_seen.Goals as goal

pub returns-then-calm : goal.returns-then-calm
unfolding said
returns-then-calm c = c.calm.ensures c.if-calm.true
