-- Two vehicles whose gears turn the engine alike, those of one d higher: the same refusals of the whole working, and each byte of the card d higher.
use Rattle.rules.proofs.Base.{ℕ, suc, arith, ◌≡◌, sym, ◌∙◌, true, none, List, length, Vehicle}
use Rattle.rules.specs.Words.{at}
use Rattle.rules.specs.Units.{moving}
use Rattle.rules.specs.Corrections.{card_at, card}
use Rattle.rules.specs.Refusals.{room_fault, vehicle_fault, work_fault}
use Rattle.rules.specs.Vocabulary.{Geared, up}
use Rattle.rules.proofs.Laws.Words.{table_ext}
use Rattle.rules.proofs.Laws.Trips.{stop_in}
use Rattle.rules.proofs.Laws.Checks.{Accepted, rooms_in, vehicle_in}
use Rattle.rules.proofs.Laws.Cards.{fit_of}
use Rattle.rules.proofs.Laws.GearedTrips.{ups, length_ups, table_ups}
use Rattle.rules.proofs.Laws.GearedSpans.{TripFits, card_at-up, fault-up}

-- on a trace that is accepted every trip passes its checks
pub all_fit : (car : Vehicle) (vs hs old : List ℕ) → Accepted car vs hs old → (i : ℕ) → moving (at vs i) ≡ true → TripFits car vs hs i
all_fit car vs hs old A i m k a b = let c = stop_in vs i m in fit_of car vs hs 0 (length vs) A.span k (omega arith) (omega arith)

-- each byte is d higher
pub card-up : {d : ℕ} {car van : Vehicle} → Geared d car van → (vs hs old : List ℕ) → Accepted car vs hs old → card van vs (ups d hs) ≡ ups d (card car vs hs)
unfolding card
card-up {d} {car} {van} G vs hs old A =
    let all = all_fit car vs hs old A in
    table_ext (card_at van vs (ups d hs)) (λ i. up d (card_at car vs hs i)) 0 (length vs)
    (λ i a b. card_at-up G (vehicle_in car A.vehicle) vs hs (rooms_in vs hs old A.room).0 i (all i) (all (suc i)))
    ∙ sym (table_ups d (card_at car vs hs) (length vs) 0)

-- so of the whole working, where both vehicles are in bounds
pub work-up : {d : ℕ} {car van : Vehicle} → Geared d car van → vehicle_fault car ≡ none → vehicle_fault van ≡ none → (vs hs old : List ℕ)
    → work_fault van vs (ups d hs) old ≡ work_fault car vs hs old
unfolding work_fault room_fault
work-up {d} {car} {van} G a b vs hs old = rw (length_ups d hs, a, b, fault-up G (vehicle_in car a) vs hs 0 (length vs))
