-- Each public function's contract allows one outcome. `Reads` is the contract's own reading, which the check makes of the clauses.
use Rattle.std.specs.Prelude.{Result, Ok, Err}
use Rattle.rules.proofs.Offered.{ℕ, arith, ◌≡◌, refl, sym, ◌∙◌, ap, refusal_once, Fault, fault, brought_once}
use Rattle.rules.specs.Determined.{Determined}
use Rattle.rules.specs.declared.Refusal.{Refusal}
use Rattle.reading.specs.Reader.{came, no_reading}
use Rattle.reading.proofs.groups.group_at.Kinds as group-at-kinds
use Rattle.reading.proofs.groups.group_at.Reads as group-at-reads
use Rattle.reading.proofs.vehicle.blank.Kinds as blank-kinds
use Rattle.reading.proofs.vehicle.blank.Reads as blank-reads
use Rattle.reading.proofs.read.Kinds as read-kinds
use Rattle.reading.proofs.read.Reads as read-reads

-- a refusal is told by its number and place
one-refusal : (f g : Refusal) → fault f ≡ fault g → f ≡ g
one-refusal f g h = refusal_once f g (ap (λ (x : Fault). x.no) h) (ap (λ (x : Fault). x.spot) h)

one-group : (x y : Result (ℕ × ℕ) Refusal) → came x ≡ came y → x ≡ y
one-group (Ok (v, i)) (Ok (w, j)) e = cc
one-group (Ok a) (Err g) e = let z : ◌≡◌ {A = ℕ} 0 1 = cc in absurd (omega arith)
one-group (Err f) (Ok b) e = let z : ◌≡◌ {A = ℕ} 0 1 = cc in absurd (omega arith)
one-group (Err f) (Err g) e = ap Err (one-refusal f g (cc))

pub group_at : Determined group-at-kinds.ps group-at-kinds.r group-at-reads.Asked group-at-reads.Learnt
group_at κs a asked z z' ws ws' p q = (one-group z z' (p ∙ sym q), refl)

pub blank : Determined blank-kinds.ps blank-kinds.r blank-reads.Asked blank-reads.Learnt
blank κs a asked z z' ws ws' p q = (p ∙ sym q, refl)

pub read : Determined read-kinds.ps read-kinds.r read-reads.Asked read-reads.Learnt
read κs a asked z z' ws ws' p q = (
  brought_once z z' no_reading (p.answered ∙ sym q.answered) (λ i. record {
    version = (p.the_version ∙ sym q.the_version) i;
    vehicle = (p.the_vehicle ∙ sym q.the_vehicle) i;
    count = (p.the_count ∙ sym q.the_count) i;
  }),
  λ i. (tt, ((p.speeds_left ∙ sym q.speeds_left) i, ((p.holds_left ∙ sym q.holds_left) i, tt))),
)
