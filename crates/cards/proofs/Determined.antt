-- Each public function's contract allows one outcome. `Reads` is the contract's own reading, which the check makes of the clauses.
use Rattle.rules.proofs.Offered.{refl, sym, ◌∙◌, ap, List, ℕ, said_once}
use Rattle.rules.specs.Determined.{Determined}
use Rattle.cards.proofs.whole.work.Kinds as work-kinds
use Rattle.cards.proofs.whole.work.Reads as work-reads
use Rattle.cards.proofs.rework.sweep.Kinds as sweep-kinds
use Rattle.cards.proofs.rework.sweep.Reads as sweep-reads

pub work : Determined work-kinds.ps work-kinds.r work-reads.Asked work-reads.Learnt
work κs a asked z z' ws ws' p q = (said_once z z' (p.0 ∙ sym q.0), ap (λ (x : List ℕ). (tt, (tt, (tt, (x, tt))))) (p.1 ∙ sym q.1))

pub sweep : Determined sweep-kinds.ps sweep-kinds.r sweep-reads.Asked sweep-reads.Learnt
sweep κs a asked z z' ws ws' p q = (refl, ap (λ (x : List ℕ). (tt, (tt, (tt, (x, (tt, tt)))))) (p ∙ sym q))
