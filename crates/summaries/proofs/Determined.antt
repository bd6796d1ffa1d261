-- Each public function's contract allows one outcome. `Reads` is the contract's own reading, which the check makes of the clauses.
use Rattle.rules.proofs.Offered.{refl, sym, ◌∙◌, brought_once}
use Rattle.rules.specs.Determined.{Determined}
use Rattle.summaries.proofs.whole.summary_of.Kinds as summary-of-kinds
use Rattle.summaries.proofs.whole.summary_of.Reads as summary-of-reads
use Rattle.summaries.proofs.stretch.count.Kinds as count-kinds
use Rattle.summaries.proofs.stretch.count.Reads as count-reads
use Rattle.summaries.proofs.stretch.none_counted.Kinds as none-counted-kinds
use Rattle.summaries.proofs.stretch.none_counted.Reads as none-counted-reads
use Rattle.summaries.proofs.settle.updated.Kinds as updated-kinds
use Rattle.summaries.proofs.settle.updated.Reads as updated-reads

pub summary_of : Determined summary-of-kinds.ps summary-of-kinds.r summary-of-reads.Asked summary-of-reads.Learnt
summary_of κs a asked z z' ws ws' p q = (brought_once z z' _ (p.0 ∙ sym q.0) (p.1 ∙ sym q.1), refl)

pub count : Determined count-kinds.ps count-kinds.r count-reads.Asked count-reads.Learnt
count κs a asked z z' ws ws' p q = (p ∙ sym q, refl)

pub none_counted : Determined none-counted-kinds.ps none-counted-kinds.r none-counted-reads.Asked none-counted-reads.Learnt
none_counted κs a asked z z' ws ws' p q = (p ∙ sym q, refl)

pub updated : Determined updated-kinds.ps updated-kinds.r updated-reads.Asked updated-reads.Learnt
updated κs a asked z z' ws ws' p q = (p ∙ sym q, refl)
