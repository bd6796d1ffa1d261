use Rattle.rules.proofs.Offered.{sym, ◌∙◌}
use Rattle.summaries.specs.Tallies.{place_of}
use Rattle.summaries.proofs.stretch.place_of.Goals as goal

pub returns-then-moving-clause-value : goal.returns-then-moving-clause-value
unfolding place_of
returns-then-moving-clause-value c = rw (sym c.moving.ensures ∙ c.if-moving.true) c.from.ensures

pub returns-else-moving-clause-value : goal.returns-else-moving-clause-value
unfolding place_of
returns-else-moving-clause-value c = rw (sym c.moving.ensures ∙ c.if-moving.false)
