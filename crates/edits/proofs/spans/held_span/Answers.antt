-- The trips near a moving second, else the second alone.
use Rattle.rules.proofs.Offered.{sym, ◌∙◌, hold_span}
use Rattle.edits.proofs.spans.held_span.Goals as goal

pub returns-then-moving-clause-from : goal.returns-then-moving-clause-from
unfolding hold_span
returns-then-moving-clause-from c = rw (sym c.moving.ensures ∙ c.if-moving.true) c.around.ensures.from

pub returns-then-moving-clause-to : goal.returns-then-moving-clause-to
unfolding hold_span
returns-then-moving-clause-to c = rw (sym c.moving.ensures ∙ c.if-moving.true) c.around.ensures.to

pub returns-else-moving-clause-from : goal.returns-else-moving-clause-from
unfolding hold_span
returns-else-moving-clause-from c = rw (sym c.moving.ensures ∙ c.if-moving.false)

pub returns-else-moving-clause-to : goal.returns-else-moving-clause-to
unfolding hold_span
returns-else-moving-clause-to c = rw (sym c.moving.ensures ∙ c.if-moving.false)
