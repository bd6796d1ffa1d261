-- Each edit's own.
use Rattle.rules.proofs.Offered.{⊎_elim, second, span}
use Rattle.edits.proofs.spans.span_of.Goals as goal

pub around-requires : goal.around-requires
unfolding second
around-requires c = rw c.in-Mend.is at c.requires

pub held_span-requires : goal.held_span-requires
unfolding second
held_span-requires c = ⊎_elim (λ p. rw p.1 at c.requires) (λ p. rw p at c.requires) c.in-Hold.is

pub returns-in-Mend-clause-from : goal.returns-in-Mend-clause-from
unfolding span
returns-in-Mend-clause-from c = rw c.in-Mend.is c.around.ensures.from

pub returns-in-Mend-clause-to : goal.returns-in-Mend-clause-to
unfolding span
returns-in-Mend-clause-to c = rw c.in-Mend.is c.around.ensures.to

pub returns-in-Hold-clause-from : goal.returns-in-Hold-clause-from
unfolding span
returns-in-Hold-clause-from c = ⊎_elim (λ p. rw p.1 c.held_span.ensures.from) (λ p. rw p c.held_span.ensures.from) c.in-Hold.is

pub returns-in-Hold-clause-to : goal.returns-in-Hold-clause-to
unfolding span
returns-in-Hold-clause-to c = ⊎_elim (λ p. rw p.1 c.held_span.ensures.to) (λ p. rw p c.held_span.ensures.to) c.in-Hold.is
