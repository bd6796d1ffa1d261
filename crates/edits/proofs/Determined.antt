-- Each public function's contract allows one outcome. `Reads` is the contract's own reading, which the check makes of the clauses.
use Rattle.rules.proofs.Offered.{brought_once}
use mathlib.Core.Path.{sym, ◌∙◌}
use Rattle.rules.specs.Determined.{Determined}
use Rattle.edits.proofs.buttons.hold.Kinds as hold-kinds
use Rattle.edits.proofs.buttons.hold.Reads as hold-reads
use Rattle.edits.proofs.buttons.release.Kinds as release-kinds
use Rattle.edits.proofs.buttons.release.Reads as release-reads
use Rattle.edits.proofs.buttons.mend.Kinds as mend-kinds
use Rattle.edits.proofs.buttons.mend.Reads as mend-reads

pub hold : Determined hold-kinds.ps hold-kinds.r hold-reads.Asked hold-reads.Learnt
hold κs a asked z z' ws ws' p q = (
  brought_once z z' _ (p.0 ∙ sym q.0) (p.1.0 ∙ sym q.1.0),
  λ i. (tt, (tt, ((p.1.1.0 ∙ sym q.1.1.0) i, ((p.1.1.1 ∙ sym q.1.1.1) i, (tt, (tt, (tt, tt))))))),
)

pub release : Determined release-kinds.ps release-kinds.r release-reads.Asked release-reads.Learnt
release κs a asked z z' ws ws' p q = (
  brought_once z z' _ (p.0 ∙ sym q.0) (p.1.0 ∙ sym q.1.0),
  λ i. (tt, (tt, ((p.1.1.0 ∙ sym q.1.1.0) i, ((p.1.1.1 ∙ sym q.1.1.1) i, (tt, (tt, tt)))))),
)

pub mend : Determined mend-kinds.ps mend-kinds.r mend-reads.Asked mend-reads.Learnt
mend κs a asked z z' ws ws' p q = (
  brought_once z z' _ (p.0 ∙ sym q.0) (p.1.0 ∙ sym q.1.0),
  λ i. (tt, ((p.1.1.0 ∙ sym q.1.1.0) i, (tt, ((p.1.1.1 ∙ sym q.1.1.1) i, (tt, (tt, (tt, tt))))))),
)
