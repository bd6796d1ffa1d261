-- Each public function's contract allows one outcome. `Reads` is the contract's own reading, which the check makes of the clauses.
use Rattle.std.specs.Result.{result_unwrap_or}
use Rattle.rules.proofs.Offered.{ℕ, ◌≡◌, refl, sym, ◌∙◌, pos, brought_once}
use Rattle.exports.specs.Export.{no_export}
use Rattle.rules.specs.Determined.{Determined}
use Rattle.exports.proofs.read_export.Kinds as read-kinds
use Rattle.exports.proofs.read_export.Reads as read-reads

-- a number that is known as a whole number with a sign
pub one_number : (m n : ℕ) → pos m ≡ pos n → m ≡ n
one_number m n e = cc

pub read_export : Determined read-kinds.ps read-kinds.r read-reads.Asked read-reads.Learnt
read_export κs a asked z z' ws ws' p q =
    let x = result_unwrap_or z no_export in
    let y = result_unwrap_or z' no_export in (
      brought_once z z' no_export (p.answered ∙ sym q.answered)
          (λ i. record {
            f0 = one_number x.f0 y.f0 (p.the_f0 ∙ sym q.the_f0) i;
            f1 = (p.the_f1 ∙ sym q.the_f1) i;
            f2 = one_number x.f2 y.f2 (p.the_f2 ∙ sym q.the_f2) i;
            tm = one_number x.tm y.tm (p.the_tm ∙ sym q.the_tm) i;
          }),
      refl,
    )
