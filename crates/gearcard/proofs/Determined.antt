-- The public function's contract allows one outcome. `Reads` is the contract's own reading, which the check makes of the clauses.
use Rattle.rules.proofs.Offered.{ℕ, ◌≡◌, sym, ◌∙◌, ap, List, ◌++◌, drop, take-append-drop}
use Rattle.rules.specs.Determined.{Determined}
use Rattle.gearcard.specs.Printing.{Begins}
use Rattle.gearcard.proofs.text.answer.Kinds as answer-kinds
use Rattle.gearcard.proofs.text.answer.Reads as answer-reads

-- memory that begins with a text and goes on as it was is known whole
whole : {text out out' : List ℕ} {r : ℕ} → Begins text out r out' → out' ≡ text ++ drop r out
whole {text} {out} {out'} {r} b = sym (take-append-drop r out') ∙ rw (b.shown, b.beyond)

same_memory : {text out a b : List ℕ} {r s : ℕ} → Begins text out r a → Begins text out s b → a ≡ b
same_memory {text} {out} {a} {b} {r} {s} p q = let e : r ≡ s = p.count ∙ sym q.count in whole p ∙ (rw e (sym (whole q)))

pub answer : Determined answer-kinds.ps answer-kinds.r answer-reads.Asked answer-reads.Learnt
answer κs a asked z z' ws ws' p q = (p.count ∙ sym q.count, ap (λ (x : List ℕ). (tt, (x, tt))) (same_memory p q))
