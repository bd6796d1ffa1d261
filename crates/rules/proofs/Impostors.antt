-- Document 01: "four impostors are to be tried and turned away", each with inputs of the table of sums: what it gives is not what the demand allows.
use Rattle.rules.proofs.Base.{ℕ, arith, ◌≡◌, refl, sym, ap, ◌∙◌, false, Option, none, some, List, [], ◌∷◌, eqb, eqb-true, ne_eqb, lit<, replicate}
use Rattle.rules.proofs.Base.{Vehicle, Edit, Hold}
use Rattle.rules.specs.Words.{if◌then◌else◌, ◌and◌, ◌or◌, within, at, every, first, highest, pass, table}
use Rattle.rules.specs.Units.{ratio_of, ratio_good, margin_good, point_good, bounds, first_failed, bad_field, low, longest, moving, rise, start, run}
use Rattle.rules.specs.Units.{stop}
use Rattle.rules.specs.Gears.{is_first, engine, next_minimum, minimum_of, minimum, is_under_nmax, is_over_minimum, allowed, fits, required, derated, between}
use Rattle.rules.specs.Gears.{on_segment, reaches, segment, power_speed, power, enough, more, suits, beats, strongest, choose}
use Rattle.rules.specs.Corrections.{floor, closing, role_of, ceiling, here, first_choice, free, is_peak, peak, too_high, rising, too_low, slowing}
use Rattle.rules.specs.Corrections.{firsts, after_A, after_B, gears, trip_speeds, trip_holds, first_at, gear_at, clutch, byte, card_at, card}
use Rattle.rules.specs.Refusals.{Fault, refuse_at, ◌orelse◌, when, trace_fault, room_fault, vehicle_fault, not_driven, check_number, checks}
use Rattle.rules.specs.Refusals.{all_checks, bad, fault_of, seconds_fault, span_fault, work_fault, left}
use Rattle.rules.specs.Edit.{Screen, showing, second, asked_speeds, asked_holds}
use Rattle.rules.specs.Vocabulary.{PassesOthers, Right, none_held, Demand1, Demand2, Demand3, Made, refuses_all, bytes_of, shows_gears}
use Rattle.rules.specs.Vocabulary.{first_gear_everywhere, one_trip_worked, first_trip_worked, does_nothing}
use Rattle.rules.proofs.Cases.Cars.{vehicle_with, five_gears, car_with, car_of, car_Z, Z, trace, twice_corrected, all_at}
use Rattle.rules.proofs.Laws.Words.{by_test}
use Rattle.rules.proofs.Laws.Checks.{by_fault}
use Rattle.rules.proofs.Outcomes.{work_meets_1, work_meets_2}

-- ---- the inputs: car Z and speeds 0, 50, 150, 100, 0; and two trips, each with a correction. No holds

abbrev no_holds : ℕ → List ℕ
no_holds n = replicate n 0

-- the card of the first, on a screen
abbrev screen_Z : Screen
screen_Z = showing trace (no_holds 5) (17 ∷ 1 ∷ 2 ∷ 18 ∷ 0 ∷ []) (all_at 0)

-- refused or not is not both
never : {A : Type 0} {q : Fault} → ◌≡◌ {A = Option Fault} none (some q) → A
never e = let z : ◌≡◌ {A = ℕ} 0 1 = cc in absurd (omega arith)

-- what the rules say of them, worked out
record Facts : Type 0 where
  pub accepted_Z : work_fault Z trace (no_holds 5) (no_holds 5) ≡ none
  pub others_Z : PassesOthers Z trace (no_holds 5) (no_holds 5)
  pub right_Z : Right Z screen_Z
  pub accepted_held : work_fault Z (asked_speeds (Hold 2 3) trace) (asked_holds (Hold 2 3) (no_holds 5)) screen_Z.card ≡ none
  pub first_gear_says : (first_gear_everywhere Z trace (no_holds 5) (no_holds 5)).says ≡ none
  pub first_gear_there : at (first_gear_everywhere Z trace (no_holds 5) (no_holds 5)).card 2 ≡ 1
  pub gear_there : at (card Z trace (no_holds 5)) 2 ≡ 2
  pub one_trip_says : (which : List ℕ → ℕ) → (one_trip_worked which Z twice_corrected (no_holds 17) (no_holds 17)).says ≡ none
  pub at_4 : (which : List ℕ → ℕ) → at (one_trip_worked which Z twice_corrected (no_holds 17) (no_holds 17)).card 4
      ≡ byte Z twice_corrected 4 (if eqb 1 (start twice_corrected (which twice_corrected)) then 2 else 5)
  pub at_12 : (which : List ℕ → ℕ) → at (one_trip_worked which Z twice_corrected (no_holds 17) (no_holds 17)).card 12
      ≡ byte Z twice_corrected 12 (if eqb 9 (start twice_corrected (which twice_corrected)) then 2 else 5)
  pub chosen_4 : byte Z twice_corrected 4 5 ≡ 5
  pub chosen_12 : byte Z twice_corrected 12 5 ≡ 5
  pub corrected_4 : at (card Z twice_corrected (no_holds 17)) 4 ≡ 2
  pub corrected_12 : at (card Z twice_corrected (no_holds 17)) 12 ≡ 2

facts : Facts
unfolding vehicle_with five_gears car_with car_of car_Z Z trace ◌and◌ ◌or◌ within every first highest pass table ratio_of ratio_good
    margin_good point_good bounds first_failed bad_field low longest moving rise start run stop is_first engine next_minimum minimum_of
    minimum is_under_nmax is_over_minimum allowed fits required derated between on_segment reaches segment power_speed power enough more suits
    beats strongest choose floor closing role_of ceiling here first_choice free is_peak peak too_high rising too_low slowing firsts
    after_A after_B gears trip_speeds trip_holds first_at gear_at clutch byte card_at card refuse_at ◌orelse◌ when trace_fault room_fault
    vehicle_fault not_driven check_number checks all_checks bad fault_of seconds_fault span_fault work_fault left asked_speeds asked_holds
    bytes_of shows_gears first_gear_everywhere one_trip_worked
facts = record {
  accepted_Z = refl;
  others_Z = record { one = refl; two = refl; three = refl; four_to_nine = refl };
  right_Z = record { accepted = refl; its_card = refl };
  accepted_held = refl;
  first_gear_says = refl;
  first_gear_there = refl;
  gear_there = refl;
  one_trip_says = λ which. refl;
  at_4 = λ which. refl;
  at_12 = λ which. refl;
  chosen_4 = refl;
  chosen_12 = refl;
  corrected_4 = refl;
  corrected_12 = refl;
}

-- ---- the card maker that refuses all jobs, by demand 1 and by demand 2

module _ (q : Vehicle → List ℕ → List ℕ → List ℕ → Fault) where
  abbrev refusing : Made
  refusing = refuses_all q Z trace (no_holds 5) (no_holds 5)

  pub impostor_refuses_all_1 : Demand1 Z trace (no_holds 5) (no_holds 5) refusing.says refusing.card → ⊥
  unfolding refuses_all
  impostor_refuses_all_1 D = never (sym facts.accepted_Z ∙ sym D.table)

  -- no second is wanting a gear
  pub impostor_refuses_all_2 : Demand2 Z trace (no_holds 5) (no_holds 5) refusing.says refusing.card → ⊥
  unfolding refuses_all
  impostor_refuses_all_2 D =
      let f = q Z trace (no_holds 5) (no_holds 5) in
      let ten : f.no ≡ 10 = D.by_10 facts.others_Z f refl in
      let w = (D.want facts.others_Z).0 (f.spot, λ i. some (record { no = ten i; spot = f.spot })) in
      let r = ((work_meets_2 Z trace (no_holds 5) (no_holds 5)).want facts.others_Z).1 w in
      never (sym facts.accepted_Z ∙ r.1)

-- ---- the one that prints first gear everywhere, by demand 2

pub impostor_first_gear : let m = first_gear_everywhere Z trace (no_holds 5) (no_holds 5) in Demand2 Z trace (no_holds 5) (no_holds 5) m.says m.card → ⊥
impostor_first_gear D =
    let z : ◌≡◌ {A = ℕ} 1 2 = sym facts.first_gear_there ∙ ap (λ (c : List ℕ). at c 2) (D.prescribed facts.first_gear_says) ∙ facts.gear_there in
    absurd (omega arith)

-- ---- the quick way that does nothing, by demand 3: gear 3 held at second 2 of a right card, and whatever it says. Accepted, the held second must show its
-- hold; refused it must not be, for the whole working accepts

pub impostor_does_nothing : (f : Vehicle → Edit → Screen → Option Fault)
    → let m = does_nothing f Z (Hold 2 3) screen_Z in Demand3 Z (Hold 2 3) screen_Z m.says m.screen → ⊥
unfolding does_nothing trace second none_held
impostor_does_nothing f D =
    by_fault (f Z (Hold 2 3) screen_Z)
    (λ e. let z : ◌≡◌ {A = ℕ} 2 3 = D.shows 2 3 refl e in absurd (omega arith))
    (λ q e.
    let w = D.as_whole facts.right_Z (lit< tt) refl (work_meets_1 Z _ _ _) (work_meets_2 Z _ _ _) in
    never (sym facts.accepted_held ∙ sym w.0 ∙ e))

-- ---- the one that copies first choices for later trips, by demand 2. Both trips have a correction, so it is wrong whichever is worked properly

pub impostor_one_trip : (which : List ℕ → ℕ) → let m = one_trip_worked which Z twice_corrected (no_holds 17) (no_holds 17) in
    Demand2 Z twice_corrected (no_holds 17) (no_holds 17) m.says m.card → ⊥
impostor_one_trip which D =
    let first = start twice_corrected (which twice_corrected) in
    let same = D.prescribed (facts.one_trip_says which) in
    by_test (eqb 1 first)
    (λ t.
    let e : 1 ≡ first = eqb-true 1 first t in
    let u : eqb 9 first ≡ false = ne_eqb 9 first (λ z. omega arith) in
    let z : ◌≡◌ {A = ℕ} 5 2 = sym (facts.at_12 which ∙ rw u facts.chosen_12) ∙ ap (λ (c : List ℕ). at c 12) same ∙ facts.corrected_12 in
    absurd (omega arith))
    (λ t.
    let z : ◌≡◌ {A = ℕ} 5 2 = sym (facts.at_4 which ∙ rw t facts.chosen_4) ∙ ap (λ (c : List ℕ). at c 4) same ∙ facts.corrected_4 in
    absurd (omega arith))

-- so it is where the first trip of the trace is the one
pub impostor_first_trip : let m = first_trip_worked Z twice_corrected (no_holds 17) (no_holds 17) in
    Demand2 Z twice_corrected (no_holds 17) (no_holds 17) m.says m.card → ⊥
unfolding first_trip_worked
impostor_first_trip = impostor_one_trip _
