-- Document 01, "Sums done on paper", with the chain behind each byte: a second at which A decides, one at which B does, one at which C does, and a hold.
use Rattle.rules.proofs.Offered.{ℕ, ◌≡◌, refl, List, [], ◌∷◌, replicate, ◌and◌, ◌or◌, within, every, first, highest, pass, ratio_of, ratio_good, point_good}
use Rattle.rules.proofs.Offered.{bounds, first_failed, bad_field, low, longest, moving, rise, start, run, stop, margin_good, engine, minimum_of, minimum}
use Rattle.rules.proofs.Offered.{is_under_nmax, is_over_minimum, allowed, fits, required, between, on_segment, reaches, segment, power_speed, power, enough}
use Rattle.rules.proofs.Offered.{more, suits, beats, strongest, choose, is_first, next_minimum, derated, floor, closing, ceiling, here, first_choice, free}
use Rattle.rules.proofs.Offered.{is_peak, peak, too_high, rising, too_low, slowing, firsts, after_A, after_B, gears, trip_speeds, trip_holds, first_at, gear_at}
use Rattle.rules.proofs.Offered.{role_of, refuse_at, ◌orelse◌, when, trace_fault, room_fault, vehicle_fault, not_driven, check_number, checks, all_checks, bad}
use Rattle.rules.proofs.Offered.{fault_of, seconds_fault, span_fault, left, around, hold_span, role_at, kind, about, role_code, next_rule, minimum_rule}
use Rattle.rules.proofs.Offered.{listed_power, driven_facts, no_facts, gear_facts, gear_list, sentence, A_at, B_at, B_looks, ceiling_of, ceiling_at}
use Rattle.rules.proofs.Offered.{clutch_reason_at, pedal_down, byte_of, why_lo, why_end, row_fault, why_fault, early_fault, nothing, said_of, why}
use Rattle.rules.proofs.Cases.Cars.{vehicle_with, five_gears, car_with, car_of, car_Z, Z, trace}
use Rattle.rules.specs.declared.Reasons.{Reasons}

-- kind, role, held gear, first choice and its sentence; after A, B and C; floor and ceiling; the clutch's reason and the byte
chain : Reasons → List ℕ
chain r =
    r.kind ∷ r.role ∷ r.held ∷ r.choice ∷ r.sentence ∷ r.after_a ∷ r.after_b ∷ r.after_c ∷ r.floor ∷ r.ceiling ∷ r.clutch_reason ∷ r.byte
    ∷ []

-- car Z, speeds 0, 50, 150, 100, 0: card 17, 1, 2, 18, 0; with gear 3 held at second 2 it shows 19 there. And speeds 0, 50, 150, 150, 0
chains : List (List ℕ)
chains =
    chain (why Z trace (replicate 5 0) 0)
    ∷ chain (why Z trace (replicate 5 0) 1)
    ∷ chain (why Z trace (replicate 5 0) 2)
    ∷ chain (why Z trace (replicate 5 0) 3)
    ∷ chain (why Z trace (replicate 5 0) 4)
    ∷ chain (why Z trace (0 ∷ 0 ∷ 3 ∷ 0 ∷ 0 ∷ []) 2)
    ∷ chain (why Z (0 ∷ 50 ∷ 150 ∷ 150 ∷ 0 ∷ []) (replicate 5 0) 2)
    ∷ []

papers : List (List ℕ)
papers =
    -- the second before the trip shows its first gear
    (1 ∷ 1 ∷ 0 ∷ 1 ∷ 4 ∷ 1 ∷ 1 ∷ 1 ∷ 1 ∷ 0 ∷ 1 ∷ 17 ∷ [])
    ∷ (2 ∷ 1 ∷ 0 ∷ 1 ∷ 4 ∷ 1 ∷ 1 ∷ 1 ∷ 1 ∷ 0 ∷ 3 ∷ 1 ∷ [])
    -- A lowers a one-second peak of gear 2, and C raises it again
    ∷ (2 ∷ 2 ∷ 0 ∷ 2 ∷ 2 ∷ 1 ∷ 1 ∷ 2 ∷ 1 ∷ 1 ∷ 4 ∷ 2 ∷ [])
    -- C raises gear 1 of the closing run
    ∷ (2 ∷ 2 ∷ 0 ∷ 1 ∷ 2 ∷ 1 ∷ 1 ∷ 2 ∷ 1 ∷ 0 ∷ 2 ∷ 18 ∷ [])
    ∷ (0 ∷ 0 ∷ 0 ∷ 0 ∷ 0 ∷ 0 ∷ 0 ∷ 0 ∷ 0 ∷ 0 ∷ 0 ∷ 0 ∷ [])
    -- a held gear stays
    ∷ (2 ∷ 2 ∷ 3 ∷ 3 ∷ 1 ∷ 3 ∷ 3 ∷ 3 ∷ 1 ∷ 0 ∷ 2 ∷ 19 ∷ [])
    -- B lowers gear 2 to its ceiling
    ∷ (2 ∷ 3 ∷ 0 ∷ 2 ∷ 2 ∷ 2 ∷ 1 ∷ 1 ∷ 1 ∷ 1 ∷ 4 ∷ 1 ∷ [])
    ∷ []

chains_on_paper : chains ≡ papers
unfolding chain chains papers vehicle_with five_gears car_with car_of car_Z Z trace ◌and◌ ◌or◌ within every first highest pass ratio_of ratio_good point_good
    bounds first_failed bad_field low longest moving rise start run stop margin_good engine minimum_of minimum is_under_nmax is_over_minimum allowed fits
    required
    between on_segment reaches segment power_speed power enough more suits beats strongest choose is_first next_minimum derated floor closing ceiling here
    first_choice free is_peak peak too_high rising too_low slowing firsts after_A after_B gears trip_speeds trip_holds first_at gear_at role_of refuse_at
    ◌orelse◌ when trace_fault room_fault vehicle_fault not_driven check_number checks all_checks bad fault_of seconds_fault span_fault left around hold_span
    role_at kind about role_code next_rule minimum_rule listed_power driven_facts no_facts gear_facts gear_list sentence A_at B_at B_looks ceiling_of ceiling_at
    clutch_reason_at pedal_down byte_of why_lo why_end row_fault why_fault early_fault nothing said_of why
chains_on_paper = refl
