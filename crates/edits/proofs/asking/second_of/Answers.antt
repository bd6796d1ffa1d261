-- Each edit names its second.
use Rattle.rules.proofs.Offered.{⊎_elim, second}
use Rattle.edits.proofs.asking.second_of.Goals as goal

pub returns-in-Hold : goal.returns-in-Hold
unfolding second
returns-in-Hold c = ⊎_elim (λ p. rw p.1) (λ q. ⊎_elim (λ p. rw p) (λ p. rw p.1) q) c.in-Hold.is

pub returns-in-Hold-2 : goal.returns-in-Hold-2
unfolding second
returns-in-Hold-2 c = ⊎_elim (λ p. rw p.1) (λ q. ⊎_elim (λ p. rw p) (λ p. rw p.1) q) c.in-Hold.is

pub returns-in-Hold-3 : goal.returns-in-Hold-3
unfolding second
returns-in-Hold-3 c = ⊎_elim (λ p. rw p.1) (λ q. ⊎_elim (λ p. rw p) (λ p. rw p.1) q) c.in-Hold.is
