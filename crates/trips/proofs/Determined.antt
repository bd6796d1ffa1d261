-- Each public function's contract allows one outcome. `Reads` is the contract's own reading, which the check makes of the clauses.
use Rattle.rules.proofs.Offered.{ℕ, refl, sym, ap, ◌∙◌, List}
use Rattle.rules.specs.Determined.{Determined}
use Rattle.trips.proofs.Closing.{run_once}
use Rattle.trips.proofs.byte.bytes.Kinds as bytes-kinds
use Rattle.trips.proofs.byte.bytes.Reads as bytes-reads
use Rattle.trips.proofs.byte.turning.Kinds as turning-kinds
use Rattle.trips.proofs.byte.turning.Reads as turning-reads
use Rattle.trips.proofs.peak.pass_a.Kinds as pass-a-kinds
use Rattle.trips.proofs.peak.pass_a.Reads as pass-a-reads
use Rattle.trips.proofs.rising.pass_b.Kinds as pass-b-kinds
use Rattle.trips.proofs.rising.pass_b.Reads as pass-b-reads
use Rattle.trips.proofs.slowing.closing_from.Kinds as closing-from-kinds
use Rattle.trips.proofs.slowing.closing_from.Reads as closing-from-reads
use Rattle.trips.proofs.slowing.pass_c.Kinds as pass-c-kinds
use Rattle.trips.proofs.slowing.pass_c.Reads as pass-c-reads
use Rattle.trips.proofs.work.first_choices.Kinds as first-choices-kinds
use Rattle.trips.proofs.work.first_choices.Reads as first-choices-reads
use Rattle.trips.proofs.work.work_trip.Kinds as work-trip-kinds
use Rattle.trips.proofs.work.work_trip.Reads as work-trip-reads

-- the engine speed of any gear
pub turning : Determined turning-kinds.ps turning-kinds.r turning-reads.Asked turning-reads.Learnt
turning κs a asked z z' ws ws' p q = (p ∙ sym q, refl)

-- the bytes of a trip's gears
pub bytes : Determined bytes-kinds.ps bytes-kinds.r bytes-reads.Asked bytes-reads.Learnt
bytes κs a asked z z' ws ws' p q = (refl, ap (λ (x : List ℕ). (tt, (tt, (x, tt)))) (p ∙ sym q))

-- pass A
pub pass_a : Determined pass-a-kinds.ps pass-a-kinds.r pass-a-reads.Asked pass-a-reads.Learnt
pass_a κs a asked z z' ws ws' p q = (refl, ap (λ (x : List ℕ). (tt, (tt, (tt, (x, tt))))) (p ∙ sym q))

-- pass B
pub pass_b : Determined pass-b-kinds.ps pass-b-kinds.r pass-b-reads.Asked pass-b-reads.Learnt
pass_b κs a asked z z' ws ws' p q = (refl, ap (λ (x : List ℕ). (tt, (tt, (tt, (x, tt))))) (p ∙ sym q))

-- where the closing run begins
pub closing_from : Determined closing-from-kinds.ps closing-from-kinds.r closing-from-reads.Asked closing-from-reads.Learnt
closing_from κs a asked z z' ws ws' p q = (run_once (a.0.now) z z' p q, refl)

-- pass C, which does not look at the speeds: those that are asked for will do
pub pass_c : Determined pass-c-kinds.ps pass-c-kinds.r pass-c-reads.Asked pass-c-reads.Learnt
pass_c κs a asked z z' ws ws' p q =
    let s = asked.1.speeds in let r = asked.1.run in (refl, ap (λ (x : List ℕ). (tt, (tt, (tt, (x, tt))))) (p _ s r ∙ sym (q _ s r)))

-- the first choices of a trip
pub first_choices : Determined first-choices-kinds.ps first-choices-kinds.r first-choices-reads.Asked first-choices-reads.Learnt
first_choices κs a asked z z' ws ws' p q = (refl, ap (λ (x : List ℕ). (tt, (tt, (tt, (tt, (tt, (tt, (x, tt)))))))) (p ∙ sym q))

-- the work on a trip
pub work_trip : Determined work-trip-kinds.ps work-trip-kinds.r work-trip-reads.Asked work-trip-reads.Learnt
work_trip κs a asked z z' ws ws' p q = (refl, ap (λ (x : List ℕ). (tt, (tt, (tt, (x, tt))))) (p ∙ sym q))
