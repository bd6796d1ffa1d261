-- The checks and the card, with request Thirteen: want of a gear, holds kept, vans as cars.
use Rattle.rules.proofs.Base.{ℕ, ◌≤◌, ◌<◌, ◌%◌, arith, ◌≡◌, ◌∙◌, ◌≢◌, ◌↔◌, true, none, some, List, map, length, Vehicle, Answer, AfterLow}
use Rattle.rules.specs.Words.{at, pass}
use Rattle.rules.specs.Units.{bad_field, low, moving}
use Rattle.rules.specs.Gears.{is_under_nmax}
use Rattle.rules.specs.Corrections.{peak, rising, slowing, gear_at, card_at, card}
use Rattle.rules.specs.Refusals.{said, refuse_at, vehicle_fault, work_fault}
use Rattle.rules.specs.Vocabulary.{Wanting, PassesOthers, Turns, Allowed, cleared, without_crawler, up}
use Rattle.rules.proofs.Laws.Words.{pass_keeps}
use Rattle.rules.proofs.Laws.Trips.{moving_in}
use Rattle.rules.proofs.Laws.Vehicle.{in_bounds}
use Rattle.rules.proofs.Laws.Held.{not_free, peak_fixed, rising_fixed, slowing_fixed}
use Rattle.rules.proofs.Laws.Checks.{vehicle_in, rooms_in, Accepted, accepted}
use Rattle.rules.proofs.Laws.Cards.{fit_of, held_shows, byte_gear, no_over_rev}
use Rattle.rules.proofs.Laws.Want.{refused_for_want, lowest-wanting, never_wanting}
use Rattle.rules.proofs.Laws.GearedCards.{work-up, card-up}
use Rattle.rules.proofs.Laws.Vans.{same_cleared, geared_van, lower_bounds}
use Rattle.rules.proofs.Laws.Unused.{bad_field_same, work_same, card_same}
use Rattle.rules.proofs.Laws.Refusals.{said_once}

-- ---- 5. A trace that passes checks 1 to 9 is refused by 10 exactly when at some moving second without a hold no gear allowed there turns the
-- engine inside its limits; the second given is the lowest such

pub want_of_a_gear : (car : Vehicle) (vs hs old : List ℕ) → PassesOthers car vs hs old
    → ((i : ℕ) × (work_fault car vs hs old ≡ some (record { no = 10; spot = i }))) ↔ ((i : ℕ) × Wanting car vs hs i)
want_of_a_gear = refused_for_want

pub lowest_want : (car : Vehicle) (vs hs old : List ℕ) → PassesOthers car vs hs old
    → (i j : ℕ) → work_fault car vs hs old ≡ some (record { no = 10; spot = i }) → Wanting car vs hs j → i ≤ j
lowest_want = lowest-wanting

-- no second is wanting at which an allowed gear is fast enough even after the lowest gear, whatever was chosen before
pub not-wanting : (car : Vehicle) (vs hs : List ℕ) (i g : ℕ) → Allowed car vs i g → Turns car AfterLow (at vs i) g → Wanting car vs hs i → ⊥
not-wanting = never_wanting

-- ---- 6. Passes never change a held second, and its byte shows the held gear

module _ (car : Vehicle) (us hs gs : List ℕ) (k j : ℕ) (l : j < length gs) (in_trip : j < length hs) (held : at hs j ≢ 0) where
  pub A_keeps_holds : at (pass (peak car us hs) k gs) j ≡ at gs j
  A_keeps_holds = pass_keeps (peak car us hs) gs k j l (λ rs. peak_fixed car us hs j rs (not_free car us hs j in_trip held))

  pub B_keeps_holds : at (pass (rising car us hs) k gs) j ≡ at gs j
  B_keeps_holds = pass_keeps (rising car us hs) gs k j l (λ rs. rising_fixed car us hs j rs (not_free car us hs j in_trip held))

  pub C_keeps_holds : at (pass (slowing car us hs) k gs) j ≡ at gs j
  C_keeps_holds = pass_keeps (slowing car us hs) gs k j l (λ rs. slowing_fixed car us hs j rs (not_free car us hs j in_trip held))

module _ (car : Vehicle) (vs hs old : List ℕ) (ok : work_fault car vs hs old ≡ none) (i : ℕ) (m : moving (at vs i) ≡ true) where
  A : Accepted car vs hs old
  A = accepted car vs hs old ok

  pub held_byte : at hs i ≢ 0 → card_at car vs hs i % 16 ≡ at hs i
  held_byte h =
      let n = (rooms_in vs hs old A.room).0 in
      byte_gear car vs hs n i m (vehicle_in car A.vehicle) (fit_of car vs hs 0 (length vs) A.span i (omega arith) (moving_in vs i m))
      ∙ held_shows car vs hs n i m h

  -- and on an accepted trace no gear turns the engine past nmax
  pub engine_in_limits : is_under_nmax car (at vs i) (gear_at car vs hs i) ≡ true
  engine_in_limits = no_over_rev car vs hs (rooms_in vs hs old A.room).0 i m (vehicle_in car A.vehicle)
      (fit_of car vs hs 0 (length vs) A.span i (omega arith) (moving_in vs i m))

-- ---- Request Thirteen: in profile 0 the lowest gear is 1, so that every rule says what it said before; in profile 1 it is 2

pub lowest_of_a_car : (car : Vehicle) → car.profile ≡ 0 → low car ≡ 1
unfolding low
lowest_of_a_car car e = rw e

pub lowest_of_a_van : (car : Vehicle) → car.profile ≡ 1 → low car ≡ 2
unfolding low
lowest_of_a_van car e = rw e

-- so a van is driven as the car that it is without its crawler, each gear one higher, neutral and no hold as they are: it is refused as that car is, at the
-- same second, and its card is the car's, each gear one higher
pub van_as_car : (van : Vehicle) → bad_field van ≡ none → van.profile ≡ 1 → (vs hs old : List ℕ)
    → let car = without_crawler van in
    (bad_field car ≡ none)
    × (work_fault van vs (map (up 1) hs) old ≡ work_fault car vs hs old)
    × (work_fault car vs hs old ≡ none → card van vs (map (up 1) hs) ≡ map (up 1) (card car vs hs))
unfolding vehicle_fault refuse_at
van_as_car van ok crawls vs hs old =
    let G = geared_van van crawls (in_bounds van ok) in
    let low_ok = lower_bounds van crawls ok in
    (low_ok, work-up G (rw low_ok) (rw ok) vs hs old, λ e. card-up G vs hs old (accepted (without_crawler van) vs hs old e))

-- Places of the vehicle past ng and past the point count: nothing looks at them. With 0 there it is refused alike, and the card is the same
pub unused_places : (car : Vehicle) → bad_field car ≡ none → (vs hs old : List ℕ)
    → (bad_field (cleared car) ≡ none) × (work_fault (cleared car) vs hs old ≡ work_fault car vs hs old)
    × (work_fault car vs hs old ≡ none → card (cleared car) vs hs ≡ card car vs hs)
unused_places car ok vs hs old =
    let S = same_cleared car (in_bounds car ok).f1_in in
    (bad_field_same S ∙ ok, work_same S vs hs old, card_same S vs hs old)

-- ---- Refusals: two answers with one number and one place are one

pub said_of-one : (a b : Answer) → said a ≡ said b → a ≡ b
said_of-one = said_once
