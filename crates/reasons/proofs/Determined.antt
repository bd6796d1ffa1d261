-- The public function's contract allows one outcome. `Reads` is the contract's own reading, which the check makes of the clauses.
use Rattle.rules.proofs.Offered.{refl, sym, ◌∙◌}
use Rattle.rules.proofs.Theorems.Cards.{said_of-one}
use Rattle.rules.specs.Determined.{Determined}
use Rattle.reasons.proofs.whole.why.Kinds as why-kinds
use Rattle.reasons.proofs.whole.why.Reads as why-reads

pub why : Determined why-kinds.ps why-kinds.r why-reads.Asked why-reads.Learnt
why κs a asked z z' ws ws' p q = (λ i. record { answer = said_of-one z.answer z'.answer (p.0 ∙ sym q.0) i; reasons = (p.1 ∙ sym q.1) i }, refl)
