-- Each public function's contract allows one outcome. `Reads` is the contract's own reading, which the check makes of the clauses.
use Rattle.rules.proofs.Offered.{refl, sym, ◌∙◌, List, ℕ, said_once}
use Rattle.rules.specs.Determined.{Determined, DeterminedAs}
use Rattle.cycles.proofs.filling.fill.Kinds as fill-kinds
use Rattle.cycles.proofs.filling.fill.Reads as fill-reads
use Rattle.cycles.proofs.parts.stretch_of.Kinds as stretch-kinds
use Rattle.cycles.proofs.parts.stretch_of.Reads as stretch-reads
use Rattle.cycles.proofs.parts.part_of.Kinds as part-kinds
use Rattle.cycles.proofs.parts.part_of.Reads as part-reads

pub fill : Determined fill-kinds.ps fill-kinds.r fill-reads.Asked fill-reads.Learnt
fill κs a asked z z' ws ws' p q = (said_once z z' (p.0 ∙ sym q.0), λ i. (tt, ((p.1 ∙ sym q.1) i, tt)))

pub stretch_of : Determined stretch-kinds.ps stretch-kinds.r stretch-reads.Asked stretch-reads.Learnt
stretch_of κs a asked z z' ws ws' p q = (p ∙ sym q, refl)

-- the part by its contents: it is a part of the caller's room
pub part_of : DeterminedAs part-kinds.ps part-kinds.r (List ℕ) (λ κs z. z.now) part-reads.Asked part-reads.Learnt
part_of κs a asked z z' ws ws' p q = (p ∙ sym q, refl)
