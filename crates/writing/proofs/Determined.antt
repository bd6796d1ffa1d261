-- Each public function's contract allows one outcome. `Reads` is the contract's own reading, which the check makes of the clauses.
use Rattle.rules.proofs.Offered.{sym, ◌∙◌, brought_once}
use Rattle.rules.specs.Determined.{Determined}
use Rattle.writing.proofs.writer.write.Kinds as write-kinds
use Rattle.writing.proofs.writer.write.Reads as write-reads

pub write : Determined write-kinds.ps write-kinds.r write-reads.Asked write-reads.Learnt
write κs a asked z z' ws ws' p q = (
  brought_once z z' 0 (p.answered ∙ sym q.answered) (p.the_length ∙ sym q.the_length),
  λ i. (tt, (tt, (tt, (tt, ((p.room_left ∙ sym q.room_left) i, tt))))),
)
