-- Demand 1 of `why`: it asks nothing of its caller, and whatever it refuses is a row of the table.
use Rattle.rules.proofs.Offered.{ℕ, refl, List, Lfts, Dens, vehicle_fault, span_fault, row_fault, why_fault, Told, told_or, told_at, told-checks, trace-told}
use Rattle.rules.proofs.Offered.{room_told}
use Rattle.rules.specs.declared.Vehicle.{Vehicle}
use Rattle.rules.specs.declared.Refusal.TheVariants.{VehicleField, OutsideTrace}
use Rattle.reasons.proofs.whole.why.Kinds as why-kinds
use Rattle.reasons.proofs.whole.why.Reads as why-reads

-- every input gets an answer
pub why_asks_nothing : (κs : Lfts 2) (a : Dens κs why-kinds.ps) → why-reads.Asked κs a
why_asks_nothing κs a = tt

-- each refusal has its number and its place
pub why-told : (car : Vehicle) (vs hs : List ℕ) (s : ℕ) → Told (why_fault car vs hs s)
unfolding why_fault row_fault vehicle_fault span_fault
why-told car vs hs s =
    told_or _ _ (trace-told vs) (told_or _ _ (room_told vs hs hs) (told_or _ _ (told_at 3 (λ f. (VehicleField f, refl)) _)
    (told_or _ _ (told_at 11 (λ i. (OutsideTrace i, refl)) _) (told-checks _ _ _ _))))
