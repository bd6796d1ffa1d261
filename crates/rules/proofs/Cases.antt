-- Document 01, "Sums done on paper": the starred cases, one table, one theorem; and a few rows of our own, each for a slip that the paper's rows let pass.
pub mod Rows
pub mod Cars
use Rattle.rules.proofs.Base.{◌≡◌, refl, true, false, none, some, List, [], ◌∷◌, pos, neg_ℤ, ◌*ℤ◌, replicate, drop, set, take, First, Closing, AfterLow}
use Rattle.rules.proofs.Base.{Inner, Hold, Release, Mend, ◌++◌, Ok, Err, TraceLength, RoomLength, VehicleField, OutsideTrace, SpeedOver}
use Rattle.rules.proofs.Base.{StepOver, EndMoving, HoldNotDriven, HoldStanding, HoldOverRev, NoGear, JobEndsEarly, BadGroup, BadVersion, BadHold}
use Rattle.rules.proofs.Base.{BytesAfter, RoomShort, BadPart, BadKind, NotFinite, OutOfBounds, KindMissing, BadFactor}
use Rattle.rules.specs.Vocabulary.{bytes_of, shows_gears, first_gear_everywhere, one_trip_worked, first_trip_worked}
use Rattle.rules.specs.Vocabulary.{role_at, job_from, none_held, cleared, most_groups, longest_job}
use Rattle.rules.specs.Words.{◌and◌, ◌or◌, within, every, first, highest, pass, table, patch, part}
use Rattle.rules.specs.Units.{ratio_of, ratio_good, point_good, bounds, first_failed, bad_field, low, longest, moving, rise, start, run, stop}
use Rattle.rules.specs.Units.{margin_good, most_gears, most_points}
use Rattle.rules.specs.Gears.{engine, minimum_of, minimum, is_under_nmax, is_over_minimum, allowed, fits, required, between, on_segment, reaches, segment}
use Rattle.rules.specs.Gears.{power_speed, power, enough, more, suits, beats, strongest, choose, is_first, next_minimum, derated}
use Rattle.rules.specs.Corrections.{floor, closing, ceiling, here, first_choice, free, is_peak, peak, too_high, rising, too_low, slowing, firsts}
use Rattle.rules.specs.Corrections.{after_A, after_B, gears, trip_speeds, trip_holds, first_at, gear_at, clutch, byte, card_at, card, role_of}
use Rattle.rules.specs.Refusals.{refuse_at, ◌orelse◌, when, trace_fault, room_fault, vehicle_fault, not_driven, check_number, checks, all_checks, bad}
use Rattle.rules.specs.Refusals.{fault_of, seconds_fault, span_fault, work_fault, left, fault, told}
use Rattle.rules.specs.Groups.{got, refused, hand_on, demand, early, group_if, group, form}
use Rattle.rules.specs.Forms.{value, checked, bounded, ◌then◌, seen, row_read, row as in_a_row, many, counted, to_the_end, row_write, known, only_if}
use Rattle.rules.specs.Job.{version, profile, gearbox, numbers as eight-numbers, point, curve, seconds, trace as speeds, one_hold, padded, vehicle_of}
use Rattle.rules.specs.Job.{vehicle, put, holds, packed, stages, job, job_read, points_of, parts_of, gather, fields, read_fault, job_of, filled}
use Rattle.rules.specs.Write.{job_bytes, checks_fault, write_fault}
use Rattle.rules.specs.Edit.{showing, second, asked_speeds, asked_holds, around, hold_span, span, fails, asked_fault, edit_fault, asked_screen, edited}
use Rattle.rules.specs.Summary.{tally, rests, drives, changes, summary, summary_fault, counted_summary, settled, updated}
use Rattle.rules.specs.Text.{digits, decimal, heading, pedal, line, lines, card_text, refusal_text, worked_text, read_text, printed, program_room}
use Rattle.rules.specs.Text.{printed_fault}
use Rattle.rules.specs.Why.{kind, about, role_code, minimum_role, next_rule, minimum_rule, listed_power, driven_facts, no_facts, gear_facts, gear_list}
use Rattle.rules.specs.Why.{why_lo, why_end, row_fault, why_fault, early_fault, nothing, said_of, why}
use Rattle.rules.proofs.Cases.Cars.{vehicle_with, five_gears, car_with, car_of, car_Z, Z, halves, halves_after, gap, van_with, van, gap_van, margins_Z}
use Rattle.rules.proofs.Cases.Cars.{inside, free_trip, steady, up, trace, split, two_trips, dip, dip_closing, slow_start, job_Z, counting, too_long}
use Rattle.rules.proofs.Cases.Cars.{choice, next_minimums, firsts_of, no_gear_at, margins_read, counted_as, of_Z, of_held, all_at, twice_corrected}
use Rattle.rules.proofs.Cases.Cars.{said_of_gear, minimum-said, told_all, past-gears, tied}
use Rattle.rules.proofs.Cases.Rows.{Row, row, refused_by, sums, papers, numbers, scaled, test, reading, refusal}

rows : List Row
rows =
    -- car Z minimum speeds
    row (numbers (minimum Z Inner 1 ∷ minimum Z Inner 2 ∷ minimum Z Inner 3 ∷ [])) (numbers (800 ∷ 720 ∷ 1400 ∷ []))
    ∷ row (next_minimums Z) (numbers (720 ∷ 800 ∷ 920 ∷ []))
    -- V 500, D 0
    ∷ row (scaled (required Z 500 (pos 0))) (scaled (pos 9000000000000))
    ∷ row (numbers (engine Z 5 500 ∷ [])) (numbers (1400000 ∷ []))
    ∷ row (test (fits Z inside 500 5)) (test true)
    ∷ row (choice 500 (pos 0)) (numbers (5 ∷ []))
    -- V 499, D 0
    ∷ row (test (fits Z inside 499 5)) (test false)
    ∷ row (choice 499 (pos 0)) (numbers (4 ∷ []))
    -- V 500, D 36; the Q of available power is 100 - M times the paper's
    ∷ row (scaled (required Z 500 (pos 36))) (scaled (pos 78525000000000))
    ∷ row (scaled (power Z 500 5).Q) (scaled (pos 90 *ℤ pos 220000000))
    ∷ row (test (enough Z 500 (pos 36) 5)) (test false)
    ∷ row (scaled (power Z 500 4).Q) (scaled (pos 90 *ℤ pos 290000000))
    ∷ row (test (enough Z 500 (pos 36) 4)) (test true)
    ∷ row (choice 500 (pos 36)) (numbers (4 ∷ []))
    -- pass A, no holds, floor 1
    ∷ row (numbers (pass (peak Z steady free_trip) 3 (3 ∷ 4 ∷ 3 ∷ []))) (numbers (3 ∷ 3 ∷ 3 ∷ []))
    ∷ row (numbers (pass (peak Z steady free_trip) 3 (3 ∷ 4 ∷ 2 ∷ []))) (numbers (3 ∷ 3 ∷ 2 ∷ []))
    ∷ row (numbers (pass (peak Z steady free_trip) 3 (2 ∷ 4 ∷ 3 ∷ []))) (numbers (2 ∷ 3 ∷ 3 ∷ []))
    ∷ row (numbers (pass (peak Z steady free_trip) 3 (2 ∷ 4 ∷ 2 ∷ []))) (numbers (2 ∷ 4 ∷ 2 ∷ []))
    -- pass B, rising throughout, floor 1
    ∷ row (numbers (pass (rising Z up free_trip) 7 (1 ∷ 2 ∷ 3 ∷ 3 ∷ 3 ∷ 3 ∷ 3 ∷ []))) (numbers (1 ∷ 1 ∷ 2 ∷ 2 ∷ 3 ∷ 3 ∷ 3 ∷ []))
    -- car Z, speeds 0, 50, 150, 100, 0; and with gear 3 held at second 2
    ∷ row (numbers (card Z trace (replicate 5 0))) (numbers (17 ∷ 1 ∷ 2 ∷ 18 ∷ 0 ∷ []))
    ∷ row (numbers (card Z trace (0 ∷ 0 ∷ 3 ∷ 0 ∷ 0 ∷ []))) (numbers (17 ∷ 1 ∷ 19 ∷ 18 ∷ 0 ∷ []))
    -- groups: 12000 is E0 5D; 65535 is FF FF 03; 80 00 and 80 80 04 are refused by 13
    ∷ row (reading (group (0xE0 ∷ 0x5D ∷ []) 0)) (reading (got 12000 2))
    ∷ row (reading (group (0xFF ∷ 0xFF ∷ 0x03 ∷ []) 0)) (reading (got 65535 3))
    ∷ row (reading (group (0x80 ∷ 0x00 ∷ []) 0)) (reading (refused (record { no = 13; spot = 0 })))
    ∷ row (reading (group (0x80 ∷ 0x80 ∷ 0x04 ∷ []) 0)) (reading (refused (record { no = 13; spot = 0 })))
    -- our own: braking asks for no power; no rounding to whole watts, down or to the nearest
    ∷ row (choice 500 (neg_ℤ (pos 36))) (numbers (5 ∷ []))
    ∷ row (numbers (choose (car_Z 927) inside 1139 (pos 34) ∷ [])) (numbers (4 ∷ []))
    ∷ row (numbers (choose (car_Z 928) inside 1309 (pos 29) ∷ [])) (numbers (3 ∷ []))
    ∷ row (numbers (choose (car_Z 7886) inside 602 (pos 13) ∷ [])) (numbers (4 ∷ []))
    -- minimum speeds round halves up: X 742,000 is too low for gear 2, X 1,400,000 for gear 5
    ∷ row (numbers (minimum halves Inner 1 ∷ minimum halves Inner 2 ∷ minimum halves Inner 3 ∷ [])) (numbers (825 ∷ 743 ∷ 1401 ∷ []))
    ∷ row (numbers (choose halves inside 106 (pos 0) ∷ [])) (numbers (1 ∷ []))
    ∷ row (numbers (choose halves inside 500 (pos 0) ∷ [])) (numbers (4 ∷ []))
    ∷ row (next_minimums halves_after) (numbers (729 ∷ 810 ∷ 932 ∷ []))
    ∷ row (numbers (choose halves_after AfterLow 133 (pos 0) ∷ choose halves_after AfterLow 134 (pos 0) ∷ [])) (numbers (1 ∷ 2 ∷ []))
    -- request Two: after gear 1, 1.15 times idle decides; in the closing run it does not
    ∷ row (numbers (card Z (0 ∷ 50 ∷ 120 ∷ 120 ∷ 0 ∷ []) (replicate 5 0))) (numbers (17 ∷ 1 ∷ 1 ∷ 2 ∷ 0 ∷ []))
    ∷ row (firsts_of Z (0 ∷ 120 ∷ 120 ∷ 0 ∷ []) (replicate 4 0) 2) (numbers (1 ∷ 2 ∷ []))
    -- car Z, speeds 0, 110, 110, 110, 0: before this rule the card was 17, 1, 18, 18, 0
    ∷ row (numbers (card Z (0 ∷ 110 ∷ 110 ∷ 110 ∷ 0 ∷ []) (replicate 5 0))) (numbers (17 ∷ 1 ∷ 1 ∷ 18 ∷ 0 ∷ []))
    -- a held 1 counts
    ∷ row (firsts_of Z (0 ∷ 50 ∷ 150 ∷ 130 ∷ 130 ∷ 0 ∷ []) (replicate 6 0) 4) (numbers (1 ∷ 2 ∷ 2 ∷ 2 ∷ []))
    ∷ row (firsts_of Z (0 ∷ 50 ∷ 150 ∷ 130 ∷ 130 ∷ 0 ∷ []) (0 ∷ 0 ∷ 1 ∷ 0 ∷ 0 ∷ 0 ∷ []) 4) (numbers (1 ∷ 1 ∷ 1 ∷ 2 ∷ []))
    -- a hold leaves the next second without a gear, but not in the closing run; so does a release
    ∷ row (refusal (work_fault gap dip (replicate 7 0) dip)) (refusal none)
    ∷ row (refusal (edit_fault gap (Hold 3 1) (showing dip (replicate 7 0) dip (all_at 0)))) (no_gear_at 4)
    ∷ row (refusal (work_fault gap dip (set (replicate 7 0) 3 1) dip)) (no_gear_at 4)
    ∷ row (refusal (edit_fault gap (Hold 3 1) (showing dip_closing (replicate 6 0) dip_closing (all_at 0)))) (refusal none)
    ∷ row (refusal (work_fault gap slow_start (0 ∷ 0 ∷ 2 ∷ 0 ∷ 0 ∷ 0 ∷ []) slow_start)) (refusal none)
    ∷ row (refusal (edit_fault gap (Release 2) (showing slow_start (0 ∷ 0 ∷ 2 ∷ 0 ∷ 0 ∷ 0 ∷ []) slow_start (all_at 0)))) (no_gear_at 3)
    -- request Thirteen: a van's gears are car Z's, each one higher: minima, choices, floors, cards
    ∷ row (numbers (minimum van Inner 2 ∷ minimum van Inner 3 ∷ minimum van Closing 3 ∷ minimum van AfterLow 3 ∷ minimum van Inner 4 ∷ []))
    (numbers (800 ∷ 720 ∷ 800 ∷ 920 ∷ 1400 ∷ []))
    ∷ row (numbers (choose van inside 500 (pos 0) ∷ choose van inside 500 (pos 36) ∷ choose van First 50 (pos 0) ∷ [])) (numbers (6 ∷ 5 ∷ 2 ∷ []))
    ∷ row (numbers (floor van 200 ∷ floor van 501 ∷ [])) (numbers (2 ∷ 3 ∷ []))
    ∷ row (numbers (card van trace (replicate 5 0))) (numbers (18 ∷ 2 ∷ 3 ∷ 19 ∷ 0 ∷ []))
    ∷ row (numbers (card van trace (0 ∷ 0 ∷ 4 ∷ 0 ∷ 0 ∷ []))) (numbers (18 ∷ 2 ∷ 20 ∷ 19 ∷ 0 ∷ []))
    ∷ row (numbers (card van (0 ∷ 50 ∷ 120 ∷ 120 ∷ 0 ∷ []) (replicate 5 0))) (numbers (18 ∷ 2 ∷ 2 ∷ 3 ∷ 0 ∷ []))
    ∷ row (numbers (card van two_trips (replicate 11 0))) (numbers (18 ∷ 18 ∷ 18 ∷ 2 ∷ 2 ∷ 2 ∷ 3 ∷ 5 ∷ 3 ∷ 3 ∷ 0 ∷ []))
    ∷ row (refusal (edit_fault gap_van (Hold 3 2) (showing dip (replicate 7 0) dip (all_at 0)))) (no_gear_at 4)
    -- the crawler is not held, at a standing second either, where another gear is refused by 8
    ∷ row (refusal (work_fault van trace (0 ∷ 0 ∷ 1 ∷ 0 ∷ 0 ∷ []) trace)) (refused_by 7 2)
    ∷ row (refusal (edit_fault van (Hold 2 1) (showing trace (replicate 5 0) trace (all_at 0)))) (refused_by 7 2)
    ∷ row (refusal (edit_fault van (Hold 0 1) (showing trace (replicate 5 0) trace (all_at 0)))) (refused_by 7 0)
    ∷ row (refusal (edit_fault van (Hold 0 2) (showing trace (replicate 5 0) trace (all_at 0)))) (refused_by 8 0)
    -- the profile is 0 or 1, and a van has three gears at least
    ∷ row (refusal (work_fault (van_with 2 6 20000 12000) trace (replicate 5 0) trace)) (refused_by 3 1)
    ∷ row (refusal (work_fault (van_with 1 2 20000 12000) trace (replicate 5 0) trace)) (refused_by 3 1)
    ∷ row (refusal (work_fault (van_with 1 3 20000 12000) trace (replicate 5 0) trace)) (refusal none)
    -- a second is moving from V 10 on; a trace of one standing second
    ∷ row (numbers (card Z (0 ∷ 10 ∷ 0 ∷ []) (replicate 3 0))) (numbers (17 ∷ 17 ∷ 0 ∷ []))
    ∷ row (numbers (card Z (0 ∷ 9 ∷ 0 ∷ []) (replicate 3 0))) (numbers (0 ∷ 0 ∷ 0 ∷ []))
    ∷ row (numbers (card Z (0 ∷ []) (replicate 1 0))) (numbers (0 ∷ []))
    -- later trips are corrected too: at second 6 the first choice is 5, the gear 2
    ∷ row (numbers (first_at Z two_trips (replicate 11 0) 6 ∷ [])) (numbers (5 ∷ []))
    ∷ row (numbers (card Z two_trips (replicate 11 0))) (numbers (17 ∷ 17 ∷ 17 ∷ 1 ∷ 1 ∷ 1 ∷ 2 ∷ 4 ∷ 2 ∷ 2 ∷ 0 ∷ []))
    -- the two buttons: gear 3 held at second 2, and released again; a free second released
    ∷ row (numbers (edited Z (Hold 2 3) (showing trace (replicate 5 0) (17 ∷ 1 ∷ 2 ∷ 18 ∷ 0 ∷ []) (all_at 0))).card) (numbers (17 ∷ 1 ∷ 19 ∷ 18 ∷ 0 ∷ []))
    ∷ row (numbers (edited Z (Release 2) (showing trace (0 ∷ 0 ∷ 3 ∷ 0 ∷ 0 ∷ []) (17 ∷ 1 ∷ 19 ∷ 18 ∷ 0 ∷ []) (all_at 0))).card)
    (numbers (17 ∷ 1 ∷ 2 ∷ 18 ∷ 0 ∷ []))
    ∷ row (numbers (edited Z (Release 2) (showing trace (0 ∷ 0 ∷ 3 ∷ 0 ∷ 0 ∷ []) (17 ∷ 1 ∷ 19 ∷ 18 ∷ 0 ∷ []) (all_at 0))).holds)
    (numbers (0 ∷ 0 ∷ 0 ∷ 0 ∷ 0 ∷ []))
    ∷ row (numbers (edited Z (Release 2) (showing trace (replicate 5 0) (17 ∷ 1 ∷ 2 ∷ 18 ∷ 0 ∷ []) (all_at 0))).card) (numbers (17 ∷ 1 ∷ 2 ∷ 18 ∷ 0 ∷ []))
    -- holding gear 0 is refused by 7: at a moving second, a hold byte as it was; at a standing one; where an earlier second of the span is above ng, there
    ∷ row (refusal (edit_fault Z (Hold 2 0) (showing trace (0 ∷ 0 ∷ 3 ∷ 0 ∷ 0 ∷ []) (17 ∷ 1 ∷ 19 ∷ 18 ∷ 0 ∷ []) (all_at 0))))
    (refusal (some (record { no = 7; spot = 2 })))
    ∷ row (numbers (edited Z (Hold 2 0) (showing trace (0 ∷ 0 ∷ 3 ∷ 0 ∷ 0 ∷ []) (17 ∷ 1 ∷ 19 ∷ 18 ∷ 0 ∷ []) (all_at 0))).holds)
    (numbers (0 ∷ 0 ∷ 3 ∷ 0 ∷ 0 ∷ []))
    ∷ row (refusal (edit_fault Z (Hold 4 0) (showing trace (replicate 5 0) (replicate 5 0) (all_at 0)))) (refusal (some (record { no = 7; spot = 4 })))
    ∷ row (refusal (edit_fault Z (Hold 2 0) (showing trace (0 ∷ 6 ∷ 0 ∷ 0 ∷ 0 ∷ []) (replicate 5 0) (all_at 0)))) (refusal (some (record { no = 7; spot = 1 })))
    -- after 4, 5 and 6 of the span
    ∷ row (refusal (edit_fault Z (Hold 1 0) (showing (0 ∷ 50 ∷ 2001 ∷ 50 ∷ 0 ∷ []) (replicate 5 0) (replicate 5 0) (all_at 0))))
    (refusal (some (record { no = 4; spot = 2 })))
    ∷ row (refusal (edit_fault Z (Hold 1 0) (showing (0 ∷ 50 ∷ 201 ∷ 100 ∷ 0 ∷ []) (replicate 5 0) (replicate 5 0) (all_at 0))))
    (refusal (some (record { no = 5; spot = 2 })))
    ∷ row (refusal (edit_fault Z (Hold 2 0) (showing (50 ∷ 50 ∷ 50 ∷ 0 ∷ 0 ∷ []) (replicate 5 0) (replicate 5 0) (all_at 0))))
    (refusal (some (record { no = 6; spot = 0 })))
    -- request Six: derated at the points first, interpolated after that
    ∷ row (scaled (power (margins_Z 10 (0 ∷ 50 ∷ 0 ∷ 0 ∷ 0 ∷ 0 ∷ 0 ∷ [])) 500 5).Q) (scaled (pos 10800000000))
    -- enough power, and most power, are judged on it: 4 and 1 without a margin
    ∷ row (numbers (choose (margins_Z 10 (0 ∷ 10 ∷ 0 ∷ 0 ∷ 0 ∷ 0 ∷ 0 ∷ [])) inside 500 (pos 36) ∷ [])) (numbers (3 ∷ []))
    ∷ row (numbers (choose Z inside 500 (pos 150) ∷ choose (margins_Z 10 (0 ∷ 0 ∷ 0 ∷ 0 ∷ 0 ∷ 0 ∷ 50 ∷ [])) inside 500 (pos 150) ∷ [])) (numbers (1 ∷ 2 ∷ []))
    -- a margin is at most 50, and 90 with M; past the point count nothing looks
    ∷ row (refusal (vehicle_fault (margins_Z 10 (0 ∷ 0 ∷ 0 ∷ 51 ∷ 0 ∷ 0 ∷ 0 ∷ [])))) (refusal (some (record { no = 3; spot = 12 })))
    ∷ row (refusal (vehicle_fault (margins_Z 41 (0 ∷ 0 ∷ 0 ∷ 50 ∷ 0 ∷ 0 ∷ 0 ∷ [])))) (refusal (some (record { no = 3; spot = 12 })))
    ∷ row (refusal (vehicle_fault (margins_Z 40 (0 ∷ 0 ∷ 0 ∷ 50 ∷ 0 ∷ 0 ∷ 0 ∷ 99 ∷ [])))) (refusal none)
    -- car Z and these speeds are written as their job
    ∷ row (numbers (job_bytes 1 Z trace (replicate 5 0))) (numbers job_Z)
    -- with gear 3 held at second 2: one hold, of second 2 and gear 3, at the end
    ∷ row (numbers (drop 62 (job_bytes 1 Z trace (0 ∷ 0 ∷ 3 ∷ 0 ∷ 0 ∷ [])))) (numbers (1 ∷ 2 ∷ 3 ∷ []))
    -- a sample mended, and the speeds that are left
    ∷ row (numbers (edited Z (Mend 2 110) (showing trace (replicate 5 0) (17 ∷ 1 ∷ 2 ∷ 18 ∷ 0 ∷ []) (all_at 0))).card) (numbers (17 ∷ 1 ∷ 18 ∷ 18 ∷ 0 ∷ []))
    ∷ row (numbers (edited Z (Mend 2 110) (showing trace (replicate 5 0) (17 ∷ 1 ∷ 2 ∷ 18 ∷ 0 ∷ []) (all_at 0))).speeds)
    (numbers (0 ∷ 50 ∷ 110 ∷ 100 ∷ 0 ∷ []))
    -- a trip split, and two trips joined; a trip begun, and one ended
    ∷ row (numbers (edited Z (Mend 2 0) (showing trace (replicate 5 0) (17 ∷ 1 ∷ 2 ∷ 18 ∷ 0 ∷ []) (all_at 0))).card) (numbers (17 ∷ 17 ∷ 17 ∷ 1 ∷ 0 ∷ []))
    ∷ row (numbers (edited Z (Mend 2 150) (showing split (replicate 5 0) (17 ∷ 17 ∷ 17 ∷ 1 ∷ 0 ∷ []) (all_at 0))).card) (numbers (17 ∷ 1 ∷ 2 ∷ 18 ∷ 0 ∷ []))
    ∷ row (numbers (edited Z (Mend 2 50) (showing (replicate 4 0) (replicate 4 0) (replicate 4 0) (all_at 0))).card) (numbers (0 ∷ 17 ∷ 17 ∷ 0 ∷ []))
    ∷ row (numbers (edited Z (Mend 2 0) (showing (0 ∷ 0 ∷ 50 ∷ 0 ∷ []) (replicate 4 0) (0 ∷ 17 ∷ 17 ∷ 0 ∷ []) (all_at 0))).card) (numbers (replicate 4 0))
    -- a hold that would stand at rest is refused by 8; a step too large is found at the neighbour, an end that would move, a second outside the trace
    ∷ row (refusal (edit_fault Z (Mend 2 9) (showing trace (0 ∷ 0 ∷ 3 ∷ 0 ∷ 0 ∷ []) (17 ∷ 1 ∷ 19 ∷ 18 ∷ 0 ∷ []) (all_at 0))))
    (refusal (some (record { no = 8; spot = 2 })))
    ∷ row (refusal (edit_fault Z (Mend 3 151) (showing trace (replicate 5 0) (17 ∷ 1 ∷ 2 ∷ 18 ∷ 0 ∷ []) (all_at 0))))
    (refusal (some (record { no = 5; spot = 4 })))
    ∷ row (refusal (edit_fault Z (Mend 4 10) (showing trace (replicate 5 0) (17 ∷ 1 ∷ 2 ∷ 18 ∷ 0 ∷ []) (all_at 0))))
    (refusal (some (record { no = 6; spot = 4 })))
    ∷ row (refusal (edit_fault Z (Mend 5 10) (showing trace (replicate 5 0) (17 ∷ 1 ∷ 2 ∷ 18 ∷ 0 ∷ []) (all_at 0))))
    (refusal (some (record { no = 11; spot = 5 })))
    ∷ row (numbers (edited Z (Mend 4 10) (showing trace (replicate 5 0) (17 ∷ 1 ∷ 2 ∷ 18 ∷ 0 ∷ []) (all_at 0))).speeds) (numbers trace)
    -- the step into the span is not looked at, and no byte before it is written
    ∷ row (refusal (edit_fault Z (Mend 4 60) (showing (0 ∷ 100 ∷ 200 ∷ 0 ∷ 50 ∷ 0 ∷ []) (replicate 6 0) (replicate 6 0) (all_at 0)))) (refusal none)
    ∷ row (numbers (edited Z (Mend 4 60) (showing (0 ∷ 100 ∷ 200 ∷ 0 ∷ 50 ∷ 0 ∷ []) (replicate 6 0) (replicate 6 0) (all_at 0))).card)
    (numbers (0 ∷ 0 ∷ 0 ∷ 17 ∷ 17 ∷ 0 ∷ []))
    -- request Nine: car Z's card has two standing seconds, one in gear 1, two in gear 2, of which one with the clutch down, and one gear change
    ∷ row (counted_as of_Z) (numbers (2 ∷ 1 ∷ 2 ∷ 0 ∷ 0 ∷ 0 ∷ 0 ∷ 0 ∷ 0 ∷ 0 ∷ 0 ∷ 1 ∷ []))
    ∷ row (counted_as of_held) (numbers (2 ∷ 1 ∷ 1 ∷ 1 ∷ 0 ∷ 0 ∷ 0 ∷ 0 ∷ 0 ∷ 0 ∷ 0 ∷ 2 ∷ []))
    -- no change across a standing second
    ∷ row (counted_as (summary split (17 ∷ 1 ∷ 18 ∷ 2 ∷ 0 ∷ []))) (numbers (3 ∷ 1 ∷ 1 ∷ 0 ∷ 0 ∷ 0 ∷ 0 ∷ 0 ∷ 0 ∷ 0 ∷ 0 ∷ 0 ∷ []))
    -- on a wrong card gear 11 is counted in no gear, but makes changes like any other; so does gear 0
    ∷ row (counted_as (summary trace (17 ∷ 1 ∷ 27 ∷ 1 ∷ 0 ∷ []))) (numbers (2 ∷ 2 ∷ 0 ∷ 0 ∷ 0 ∷ 0 ∷ 0 ∷ 0 ∷ 0 ∷ 0 ∷ 0 ∷ 2 ∷ []))
    ∷ row (counted_as (summary trace (17 ∷ 10 ∷ 16 ∷ 0 ∷ 0 ∷ []))) (numbers (2 ∷ 0 ∷ 0 ∷ 0 ∷ 0 ∷ 0 ∷ 0 ∷ 0 ∷ 0 ∷ 0 ∷ 1 ∷ 1 ∷ []))
    -- held and released
    ∷ row (counted_as (edited Z (Hold 2 3) (showing trace (replicate 5 0) (17 ∷ 1 ∷ 2 ∷ 18 ∷ 0 ∷ []) of_Z)).summary) (counted_as of_held)
    ∷ row (counted_as (edited Z (Release 2) (showing trace (0 ∷ 0 ∷ 3 ∷ 0 ∷ 0 ∷ []) (17 ∷ 1 ∷ 19 ∷ 18 ∷ 0 ∷ []) of_held)).summary) (counted_as of_Z)
    -- mended: the trip is split, and a standing second is one more
    ∷ row (counted_as (edited Z (Mend 2 0) (showing trace (replicate 5 0) (17 ∷ 1 ∷ 2 ∷ 18 ∷ 0 ∷ []) of_Z)).summary)
    (numbers (3 ∷ 2 ∷ 0 ∷ 0 ∷ 0 ∷ 0 ∷ 0 ∷ 0 ∷ 0 ∷ 0 ∷ 0 ∷ 0 ∷ []))
    -- a wrong summary: each count stops at 0 and at 65,535, judged once, on the result
    ∷ row (counted_as (edited Z (Mend 2 0) (showing trace (replicate 5 0) (17 ∷ 1 ∷ 2 ∷ 18 ∷ 0 ∷ []) (all_at 0))).summary)
    (numbers (1 ∷ 1 ∷ 0 ∷ 0 ∷ 0 ∷ 0 ∷ 0 ∷ 0 ∷ 0 ∷ 0 ∷ 0 ∷ 0 ∷ []))
    ∷ row (counted_as (edited Z (Mend 2 0) (showing trace (replicate 5 0) (17 ∷ 1 ∷ 2 ∷ 18 ∷ 0 ∷ []) (all_at 65535))).summary)
    (numbers (65535 ∷ 65535 ∷ 65533 ∷ 65535 ∷ 65535 ∷ 65535 ∷ 65535 ∷ 65535 ∷ 65535 ∷ 65535 ∷ 65535 ∷ 65534 ∷ []))
    -- a refused edit changes no count
    ∷ row (counted_as (edited Z (Hold 2 0) (showing trace (replicate 5 0) (17 ∷ 1 ∷ 2 ∷ 18 ∷ 0 ∷ []) (all_at 7))).summary) (counted_as (all_at 7))
    -- asking for the summary of a card is refused by 1, then by 2
    ∷ row (refusal (summary_fault [] (0 ∷ []))) (refusal (some (record { no = 1; spot = 0 })))
    ∷ row (refusal (summary_fault trace (0 ∷ []))) (refusal (some (record { no = 2; spot = 0 })))
    ∷ row (counted_as (counted_summary trace (0 ∷ []))) (counted_as (all_at 0))
    -- request Ten: 16383 takes two bytes, 16384 three
    ∷ row (numbers (form 16383)) (numbers (0xFF ∷ 0x7F ∷ []))
    ∷ row (numbers (form 16384)) (numbers (0x80 ∷ 0x80 ∷ 0x01 ∷ []))
    -- of a count of 4,096 the card program reads on, and finds the job's end; of 4,097, 16,384, 16,385 and 65,535 it prints "refused 1 at 0"
    ∷ row (numbers (printed (counting (form 4096)))) (numbers (refusal_text (record { no = 12; spot = 57 })))
    ∷ row (numbers (printed (counting (form 4097)))) (numbers too_long)
    ∷ row (numbers (printed (counting (form 16384)))) (numbers too_long)
    ∷ row (numbers (printed (counting (form 16385)))) (numbers too_long)
    ∷ row (numbers (printed (counting (form 65535)))) (numbers too_long)
    -- callers with their own memory read on where the count is 16,384, and are refused by 1 where it is 16,385
    ∷ row (refusal (read_fault (job_read (counting (form 16384)) 16384 16384))) (refusal (some (record { no = 12; spot = 58 })))
    ∷ row (refusal (read_fault (job_read (counting (form 16385)) 65535 65535))) (refusal (some (record { no = 1; spot = 0 })))
    -- request Six: version 2 has a margin behind each p; read back, the job has its version and its margins
    ∷ row (numbers (part (job_bytes 2 (margins_Z 10 (0 ∷ 50 ∷ 0 ∷ 1 ∷ 0 ∷ 0 ∷ 2 ∷ [])) trace (replicate 5 0)) 28 41))
    (numbers (160 ∷ 6 ∷ 100 ∷ 0 ∷ 136 ∷ 14 ∷ 172 ∷ 2 ∷ 50 ∷ 240 ∷ 21 ∷ 244 ∷ 3 ∷ []))
    ∷ row (numbers (margins_read (job_bytes 2 (margins_Z 10 (0 ∷ 50 ∷ 0 ∷ 1 ∷ 0 ∷ 0 ∷ 2 ∷ [])) trace (replicate 5 0))))
    (numbers (2 ∷ 0 ∷ 50 ∷ 0 ∷ 1 ∷ 0 ∷ 0 ∷ 2 ∷ 0 ∷ []))
    ∷ row (numbers (margins_read job_Z)) (numbers (1 ∷ 0 ∷ 0 ∷ 0 ∷ 0 ∷ 0 ∷ 0 ∷ 0 ∷ 0 ∷ []))
    -- the writer: 14 before everything else; a margin in version 1 is 3 at field 12, after 11 and before 13
    ∷ row (refusal (checks_fault 4 Z [] [])) (refusal (some (record { no = 14; spot = 0 })))
    ∷ row (refusal (checks_fault 0 Z [] [])) (refusal (some (record { no = 14; spot = 0 })))
    ∷ row (refusal (checks_fault 1 (margins_Z 10 (0 ∷ 0 ∷ 0 ∷ 0 ∷ 0 ∷ 0 ∷ 1 ∷ [])) trace (replicate 5 0))) (refusal (some (record { no = 3; spot = 12 })))
    ∷ row (refusal (checks_fault 1 (margins_Z 51 (0 ∷ 0 ∷ 0 ∷ 0 ∷ 0 ∷ 0 ∷ 1 ∷ [])) trace (replicate 5 0))) (refusal (some (record { no = 3; spot = 10 })))
    ∷ row (refusal (checks_fault 1 (vehicle_with 0 5 (five_gears 12000) 10 (1 ∷ []) 799 5600 1000) trace (replicate 5 0)))
    (refusal (some (record { no = 3; spot = 12 })))
    ∷ row (refusal (checks_fault 2 (vehicle_with 0 5 (five_gears 12000) 10 (1 ∷ []) 799 5600 1000) trace (replicate 5 0)))
    (refusal (some (record { no = 3; spot = 13 })))
    ∷ row (refusal (checks_fault 1 (margins_Z 10 (0 ∷ 0 ∷ 0 ∷ 0 ∷ 0 ∷ 0 ∷ 0 ∷ 9 ∷ [])) trace (replicate 5 0))) (refusal none)
    ∷ row (refusal (checks_fault 2 (margins_Z 10 (0 ∷ 0 ∷ 0 ∷ 0 ∷ 0 ∷ 0 ∷ 1 ∷ [])) trace (replicate 5 0))) (refusal none)
    -- request Thirteen: version 3 has the profile behind the version; 0 or 1, and ng of a van 3 at least, as they are read; another version is 14
    ∷ row (numbers (take 3 (job_bytes 3 van trace (replicate 5 0)))) (numbers (3 ∷ 1 ∷ 6 ∷ []))
    ∷ row (numbers (take 3 (job_bytes 3 Z trace (replicate 5 0)))) (numbers (3 ∷ 0 ∷ 5 ∷ []))
    ∷ row (refusal (read_fault (job_read (3 ∷ 2 ∷ []) 5 5))) (refused_by 3 1)
    ∷ row (refusal (read_fault (job_read (3 ∷ 1 ∷ 2 ∷ []) 5 5))) (refused_by 3 1)
    ∷ row (refusal (read_fault (job_read (4 ∷ []) 5 5))) (refused_by 14 0)
    ∷ row (refusal (read_fault (job_read (job_bytes 3 van trace (replicate 5 0)) 5 5))) (refusal none)
    -- versions 1 and 2 have no place for it, before any other field
    ∷ row (refusal (checks_fault 1 van trace (replicate 5 0))) (refused_by 3 1)
    ∷ row (refusal (checks_fault 2 van trace (replicate 5 0))) (refused_by 3 1)
    ∷ row (refusal (checks_fault 3 van trace (replicate 5 0))) (refusal none)
    ∷ row (refusal (checks_fault 3 van trace (0 ∷ 0 ∷ 1 ∷ 0 ∷ 0 ∷ []))) (refused_by 7 2)
    -- two trips, both corrected: at seconds 4 and 12 the first choice is 5, the gear 2
    ∷ row (numbers (first_at Z twice_corrected (replicate 17 0) 4 ∷ first_at Z twice_corrected (replicate 17 0) 12 ∷ [])) (numbers (5 ∷ 5 ∷ []))
    ∷ row (numbers (card Z twice_corrected (replicate 17 0)))
    (numbers (17 ∷ 1 ∷ 1 ∷ 1 ∷ 2 ∷ 4 ∷ 2 ∷ 2 ∷ 17 ∷ 1 ∷ 1 ∷ 1 ∷ 2 ∷ 4 ∷ 2 ∷ 2 ∷ 0 ∷ []))
    -- the impostors: first gear everywhere; the first trip worked, at second 4, and first choices copied for the later one, at second 12
    ∷ row (numbers (first_gear_everywhere Z trace (replicate 5 0) (replicate 5 0)).card) (numbers (17 ∷ 1 ∷ 1 ∷ 1 ∷ 0 ∷ []))
    ∷ row (numbers (part (first_trip_worked Z twice_corrected (replicate 17 0) (replicate 17 0)).card 4 5)) (numbers (2 ∷ []))
    ∷ row (numbers (part (first_trip_worked Z twice_corrected (replicate 17 0) (replicate 17 0)).card 12 13)) (numbers (5 ∷ []))
    -- request Two in `why`: at a trip's first second in the closing run gear 2's minimum is idle itself, and X is below it; not in the closing run nine tenths
    ∷ row (minimum-said (0 ∷ 110 ∷ 0 ∷ []) 1 2) (numbers (800 ∷ 3 ∷ 770000 ∷ []))
    ∷ row (test (said_of_gear (0 ∷ 110 ∷ 0 ∷ []) 1 2).over_minimum) (test false)
    ∷ row (minimum-said (0 ∷ 110 ∷ 110 ∷ 0 ∷ []) 1 2) (numbers (720 ∷ 2 ∷ 770000 ∷ []))
    -- gear 1 also fits when X, 600,000, is below its minimum
    ∷ row (test (said_of_gear trace 1 1).over_minimum) (test false)
    ∷ row (test (said_of_gear trace 1 1).fits) (test true)
    -- document 01's table, and the numbers of document 02: each refusal with its number and its place; accepted is 0 at 0
    ∷ row (numbers (told_all (Ok tt ∷ Err TraceLength ∷ Err RoomLength ∷ Err (VehicleField 7) ∷ Err (OutsideTrace 7) ∷ Err (SpeedOver 7) ∷
    Err (StepOver 7) ∷ Err (EndMoving 7) ∷ Err (HoldNotDriven 7) ∷ Err (HoldStanding 7) ∷ Err (HoldOverRev 7) ∷ Err (NoGear 7) ∷
    Err (JobEndsEarly 7) ∷ Err (BadGroup 7) ∷ Err BadVersion ∷ Err (BadHold 7) ∷ Err (BytesAfter 7) ∷ Err (RoomShort 7) ∷ Err
    BadPart ∷ Err (BadKind 7) ∷ Err (NotFinite 7) ∷ Err (OutOfBounds 7) ∷ Err (KindMissing 7) ∷ Err BadFactor ∷ [])))
    (numbers (0 ∷ 0 ∷ 1 ∷ 0 ∷ 2 ∷ 0 ∷ 3 ∷ 7 ∷ 11 ∷ 7 ∷ 4 ∷ 7 ∷ 5 ∷ 7 ∷ 6 ∷ 7 ∷ 7 ∷ 7 ∷ 8 ∷ 7 ∷ 9 ∷ 7 ∷ 10 ∷ 7 ∷ 12 ∷ 7 ∷ 13 ∷ 7 ∷ 14 ∷ 0 ∷ 15 ∷ 7 ∷ 16 ∷ 7 ∷
    17 ∷ 7 ∷ 18 ∷ 0 ∷ 19 ∷ 7 ∷ 20 ∷ 7 ∷ 21 ∷ 7 ∷ 22 ∷ 7 ∷ 23 ∷ 0 ∷ []))
    -- what a second is goes by the first choice before it: after gear 1, though gear 2 is chosen at the second itself
    ∷ row (numbers (minimum Z (role_at Z (0 ∷ 50 ∷ 150 ∷ 150 ∷ 0 ∷ []) (replicate 5 0) 2) 2 ∷ [])) (numbers (920 ∷ []))
    -- a byte after the end; a hold of gear 0, and one at the second of the hold before
    ∷ row (refusal (read_fault (job_read (job_Z ++ (0 ∷ [])) 5 5))) (refused_by 16 63)
    ∷ row (refusal (read_fault (job_read (take 62 job_Z ++ (1 ∷ 2 ∷ 0 ∷ [])) 5 5))) (refused_by 15 63)
    ∷ row (refusal (read_fault (job_read (take 62 job_Z ++ (2 ∷ 2 ∷ 3 ∷ 2 ∷ 3 ∷ [])) 5 5))) (refused_by 15 65)
    -- room beyond what is read stays; places past the gears read back as 0
    ∷ row (numbers (filled (7 ∷ 7 ∷ 7 ∷ 7 ∷ []) (1 ∷ 2 ∷ []))) (numbers (1 ∷ 2 ∷ 7 ∷ 7 ∷ []))
    ∷ row (numbers (drop 4 (cleared past-gears).ratio)) (numbers (2800 ∷ 0 ∷ 0 ∷ 0 ∷ 0 ∷ 0 ∷ []))
    -- the longest job, of three bytes a group
    ∷ row (numbers (longest_job 16384 ∷ [])) (numbers (148104 ∷ []))
    -- pass A lowers no gear past nmax, and pass B none: at V 600 gear 1 turns too fast
    ∷ row (numbers (pass (peak Z (replicate 4 600) free_trip) 3 (1 ∷ 2 ∷ 1 ∷ []))) (numbers (1 ∷ 2 ∷ 1 ∷ []))
    ∷ row (numbers (pass (rising Z (400 ∷ 600 ∷ 700 ∷ []) free_trip) 2 (1 ∷ 3 ∷ []))) (numbers (1 ∷ 2 ∷ []))
    -- the passes see gears already corrected: first choices 1, 5, 5, 5, 5, 5
    ∷ row (numbers (gears Z (50 ∷ 500 ∷ 510 ∷ 520 ∷ 530 ∷ 540 ∷ 0 ∷ []) (replicate 6 0))) (numbers (1 ∷ 1 ∷ 2 ∷ 2 ∷ 3 ∷ 3 ∷ []))
    -- a trace of one second is accepted
    ∷ row (refusal (work_fault Z (0 ∷ []) (0 ∷ []) (0 ∷ []))) (refusal none)
    -- on a wrong card: the second after the trip stays as it was, and so does every byte where a standing second is released
    ∷ row (numbers (edited Z (Hold 2 3) (showing trace (replicate 5 0) (replicate 5 9) (all_at 0))).card) (numbers (17 ∷ 1 ∷ 19 ∷ 18 ∷ 9 ∷ []))
    ∷ row (numbers (edited Z (Release 4) (showing trace (replicate 5 0) (replicate 5 9) (all_at 0))).card) (numbers (replicate 5 9))
    -- where a standing second is released no other second is looked at
    ∷ row (refusal (edit_fault Z (Release 4) (showing trace (0 ∷ 6 ∷ 0 ∷ 0 ∷ 0 ∷ []) (replicate 5 0) (all_at 0)))) (refusal none)
    -- 17, with the length needed, after the checks
    ∷ row (refusal (write_fault 1 Z trace (replicate 5 0) (replicate 62 0))) (refused_by 17 63)
    ∷ row (refusal (write_fault 1 Z trace (0 ∷ 0 ∷ 6 ∷ 0 ∷ 0 ∷ []) [])) (refused_by 7 2)
    -- most power, the higher gear on a tie: at V 500 gears 1 and 2 both have 88.0 kW less the margin
    ∷ row (numbers (choose tied inside 500 (pos 150) ∷ [])) (numbers (2 ∷ []))
    -- 7 before 10, though the one is found at a hold and the other after it
    ∷ row (refusal (work_fault gap dip (0 ∷ 6 ∷ 0 ∷ 1 ∷ 0 ∷ 0 ∷ 0 ∷ []) dip)) (refused_by 7 1)
    -- what the card program prints of car Z's job
    ∷ row (numbers (printed job_Z)) (numbers (
    115 ∷ 101 ∷ 99 ∷ 111 ∷ 110 ∷ 100 ∷ 32 ∷ 115 ∷ 112 ∷ 101 ∷ 101 ∷ 100 ∷ 32 ∷ 103 ∷ 101 ∷ 97 ∷ 114 ∷ 32 ∷ 99 ∷ 108 ∷ 117 ∷ 116 ∷ 99 ∷ 104 ∷ 10 ∷
    48 ∷ 32 ∷ 48 ∷ 46 ∷ 48 ∷ 32 ∷ 49 ∷ 32 ∷ 100 ∷ 111 ∷ 119 ∷ 110 ∷ 10 ∷ 49 ∷ 32 ∷ 53 ∷ 46 ∷ 48 ∷ 32 ∷ 49 ∷ 32 ∷ 117 ∷ 112 ∷ 10 ∷ 50 ∷ 32 ∷ 49 ∷
    53 ∷ 46 ∷ 48 ∷ 32 ∷ 50 ∷ 32 ∷ 117 ∷ 112 ∷ 10 ∷ 51 ∷ 32 ∷ 49 ∷ 48 ∷ 46 ∷ 48 ∷ 32 ∷ 50 ∷ 32 ∷ 100 ∷ 111 ∷ 119 ∷ 110 ∷ 10 ∷ 52 ∷ 32 ∷ 48 ∷ 46 ∷
    48 ∷ 32 ∷ 48 ∷ 32 ∷ 117 ∷ 112 ∷ 10 ∷ []))
    ∷ []

sums_done_on_paper : sums rows ≡ papers rows
unfolding sums papers rows row choice vehicle_with five_gears van_with van gap_van refused_by car_of car_Z Z halves inside free_trip steady up trace two_trips
    job_Z ◌and◌ ◌or◌ within every first highest pass table patch ratio_of ratio_good point_good bounds first_failed bad_field low longest moving rise start
    run stop engine minimum_of minimum is_under_nmax is_over_minimum allowed fits required between on_segment reaches segment power_speed power enough more
    suits
    beats strongest choose floor closing ceiling here first_choice free is_peak peak too_high rising too_low slowing firsts after_A after_B gears trip_speeds
    trip_holds first_at gear_at clutch byte card_at card refuse_at ◌orelse◌ when trace_fault room_fault vehicle_fault not_driven check_number checks bad
    fault_of seconds_fault span_fault work_fault left edit_fault hand_on demand early group_if group value checked bounded ◌then◌ seen row_read in_a_row many
    counted to_the_end version profile gearbox eight-numbers point curve seconds speeds one_hold padded vehicle_of vehicle put holds packed stages job
    job_read digits decimal heading pedal line lines card_text refusal_text worked_text read_text printed next_minimums firsts_of no_gear_at car_with
    halves_after gap dip dip_closing slow_start is_first next_minimum role_at role_of form row_write points_of parts_of gather fields job_from job_bytes split
    counting too_long read_fault program_room printed_fault margins_read job_of margins_Z margin_good derated known only_if checks_fault counted_as of_Z
    of_held all_at tally rests drives changes summary summary_fault counted_summary settled updated all_checks second asked_speeds asked_holds around
    hold_span span none_held fails asked_fault asked_screen edited said_of_gear minimum-said kind about role_code minimum_role next_rule minimum_rule
    listed_power driven_facts no_facts gear_facts gear_list why_lo why_end row_fault why_fault early_fault nothing said_of why told_all filled
    cleared past-gears tied most_groups longest_job write_fault bytes_of shows_gears first_gear_everywhere one_trip_worked first_trip_worked
sums_done_on_paper = refl
