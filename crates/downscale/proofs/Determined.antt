-- Each public function's contract allows one outcome. `Reads` is the contract's own reading, which the check makes of the clauses.
use Rattle.rules.proofs.Offered.{sym, ◌∙◌, said_once}
use Rattle.rules.specs.Determined.{Determined}
use Rattle.downscale.proofs.closed.downscale.Kinds as closed-kinds
use Rattle.downscale.proofs.closed.downscale.Reads as closed-reads
use Rattle.downscale.proofs.stepwise.downscale_steps.Kinds as steps-kinds
use Rattle.downscale.proofs.stepwise.downscale_steps.Reads as steps-reads

pub downscale : Determined closed-kinds.ps closed-kinds.r closed-reads.Asked closed-reads.Learnt
downscale κs a asked z z' ws ws' p q = (said_once z z' (p.0 ∙ sym q.0), λ i. (tt, ((p.1 ∙ sym q.1) i, tt)))

pub downscale_steps : Determined steps-kinds.ps steps-kinds.r steps-reads.Asked steps-reads.Learnt
downscale_steps κs a asked z z' ws ws' p q = (said_once z z' (p.0 ∙ sym q.0), λ i. (tt, ((p.1 ∙ sym q.1) i, tt)))
