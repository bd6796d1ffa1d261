-- What the proofs of the other crates use of this one, passed on: the definitions, the laws on them, and the kit's words.
pub use Rattle.rules.proofs.Base.{+ℤ_assoc, +ℤ_idl, Bool, Dens, Float, HasValue, Lasts, Lfts, List, list_get_or-eq_default, Option, option_get_or, SFits, T}
pub use Rattle.rules.proofs.Base.{[], ◌%◌, ◌*◌, ◌*ℤ◌, ◌++◌, ◌+◌, ◌+ℤ◌, ◌-◌, ◌-ℤ◌, ◌/◌, ◌<◌, ◌^◌, ◌↔◌, ◌∙◌, ◌∷◌, ◌≡◌, ◌≢◌, ◌≤◌, ◌⊎◌, add_assoc, add_comm}
pub use Rattle.rules.proofs.Base.{add-mod_right, add-mul, add-mul-div_right, add-one, add-suc, add-zero, ap, append_assoc, append-nil, append_snoc}
pub use Rattle.rules.proofs.Base.{arith, at_exit, binary32, div-add-mod', div-eq_of_lt, div-eq_of_lt-le, div-lt_iff_lt-mul, div-mul-le_self, div_same}
pub use Rattle.rules.proofs.Base.{down, drop, drop-append-le, drop-append_seam, drop-cons, drop-drop, drop-length, drop_of_length-le, drop-set-lt}
pub use Rattle.rules.proofs.Base.{ended_of, eq-eqb, eqb, eqb-false, eqb-true, ext_get_or, false, fill_more, fin, get_or, get_or-drop, get_or-replicate}
pub use Rattle.rules.proofs.Base.{get_or-set_other, get_or-set_same, inf, inl, inr, le-div_iff_mul-le, le-leb, le-ltb, le-max_right, le_of_eq, le_of_lt}
pub use Rattle.rules.proofs.Base.{le_of_mul-le-mul_right, le_of_suc-le-suc, le_refl, le_trans, le_z, leb, leb-false, leb-true, length, length-append}
pub use Rattle.rules.proofs.Base.{length-drop, length-map, length-replicate, length-set, length-sets, length-take-le, lit<, lit≤, lt-leb, lt-ltb}
pub use Rattle.rules.proofs.Base.{lt_of_lt_of_le, lt_z, ltb, ltb-false, ltb-true, map, max, max-le, min, mod-eq_of_lt, mod-lt, mul-add}
pub use Rattle.rules.proofs.Base.{mul_assoc, mul_comm, mul-div-mul_left, mul-le-mul, mul-le-mul_left, mul-le-mul_right, mul_left_comm, mul-one, nan}
pub use Rattle.rules.proofs.Base.{nan_bits_above, nat_abs, ne_eqb, negsuc, neg_ℤ, non_neg, none, not, not-false, not-suc-le-zero, not-true}
pub use Rattle.rules.proofs.Base.{odd_sign, of_bits-fits, of_bits-to_bits, of_z, one-add, one-mul, pos, Post-is, post_of, pow-add, pow_mono, pow_pos, refl}
pub use Rattle.rules.proofs.Base.{replicate, res_t, rules, set, set_at, set-get_or, set_out, sets, sets-eq, sfits_lit, shr_le, some, sub_self, sub-zero, subst}
pub use Rattle.rules.proofs.Base.{sub_ℕ, suc, suc-add, sym, take, take_all, take-append-drop, take-append-le, take-append_seam, take-length, take-suc}
pub use Rattle.rules.proofs.Base.{to_bits, to_z, to_z-of_z, to_z_pos, true, w32, w64, zero, zero-add, zero-mul, ℕ, ℤ, ⊎_elim}
unfoldable pub use Rattle.rules.proofs.Base.{is_nan, odd, of_bits, of_fields, count_trailing_zeros, up}
pub use Rattle.rules.specs.Corrections.{pressed, shown}
unfoldable pub use Rattle.rules.specs.Corrections.{after_A, after_B, byte, card, card_at, ceiling, closing, clutch, first_at, first_choice, firsts, floor}
unfoldable pub use Rattle.rules.specs.Corrections.{free, gear_at, gears, here, is_peak, peak, rising, role_of, slowing, too_high, too_low, trip_holds}
unfoldable pub use Rattle.rules.specs.Corrections.{trip_speeds}
pub use Rattle.rules.specs.Edit.{Screen, Extent, asked_fault, edited, showing}
unfoldable pub use Rattle.rules.specs.Edit.{around, asked_holds, asked_screen, asked_speeds, edit_fault, hold_span, second, span}
pub use Rattle.rules.specs.Forms.{Form}
unfoldable pub use Rattle.rules.specs.Forms.{◌then◌, bounded, checked, counted, known, many, only_if, row, row_read, row_write, seen, value, to_the_end}
pub use Rattle.rules.specs.Gears.{Power}
unfoldable pub use Rattle.rules.specs.Gears.{allowed, beats, between, choose, derated, engine, enough, fits, is_first, minimum, minimum_of, more}
unfoldable pub use Rattle.rules.specs.Gears.{next_minimum, on_segment, is_over_minimum, power, power_speed, reaches, required, segment, strongest, suits}
unfoldable pub use Rattle.rules.specs.Gears.{is_under_nmax}
pub use Rattle.rules.specs.Groups.{Read, Reader, ◌>>=◌, ◌>>◌, cursor, form, give, got, group, refused}
unfoldable pub use Rattle.rules.specs.Groups.{demand, early, group_if, hand_on}
pub use Rattle.rules.specs.Inside.{InBounds}
unfoldable pub use Rattle.rules.specs.Inside.{gear_fault}
pub use Rattle.rules.specs.Job.{Job}
unfoldable pub use Rattle.rules.specs.Job.{curve, fields, filled, gather, gearbox, one_hold, holds, job, job_of, job_read, numbers, packed, padded}
unfoldable pub use Rattle.rules.specs.Job.{parts_of}
unfoldable pub use Rattle.rules.specs.Job.{point, points_of, profile, put, read_fault, seconds, stages, trace, vehicle, vehicle_of, version}
pub use Rattle.rules.specs.Refusals.{Check, Fault, at_rest, ends, fault, no-gear, numbered, over-ng, over-rev, speed, step}
unfoldable pub use Rattle.rules.specs.Refusals.{◌orelse◌, all_checks, bad, check_number, checks, fault_of, left, not_driven, refuse_at, room_fault, said}
unfoldable pub use Rattle.rules.specs.Refusals.{seconds_fault, span_fault, trace_fault, vehicle_fault, when, work_card, work_fault}
unfoldable pub use Rattle.rules.specs.Summary.{changes, counted_summary, drives, rests, settled, summary, summary_fault, tally, updated}
pub use Rattle.rules.specs.Text.{decimal}
unfoldable pub use Rattle.rules.specs.Text.{card_text, heading, line, lines, pedal, printed, printed_fault, program_room, read_text, refusal_text}
unfoldable pub use Rattle.rules.specs.Text.{worked_text}
pub use Rattle.rules.specs.Units.{fastest, newest, steepest}
unfoldable pub use Rattle.rules.specs.Units.{bad_field, bounds, first_failed, longest, low, margin_good, moving, point_good, ratio_good, ratio_of, rise}
unfoldable pub use Rattle.rules.specs.Units.{run, start, stop}
pub use Rattle.rules.specs.Vocabulary.Choosing.{HighestEnough, IsTrip, MostPower, NoGear, OnSegment, PassesOthers, Wanting}
unfoldable pub use Rattle.rules.specs.Vocabulary.Choosing.{role_at}
pub use Rattle.rules.specs.Vocabulary.Edits.{Out, Right, Spares}
unfoldable pub use Rattle.rules.specs.Vocabulary.Edits.{none_held}
pub use Rattle.rules.specs.Vocabulary.Jobs.{Bytes, cleared, job_fault}
unfoldable pub use Rattle.rules.specs.Vocabulary.Jobs.{job_from}
unfoldable pub use Rattle.rules.specs.Vocabulary.Sums.{nested}
unfoldable pub use Rattle.rules.specs.Why.{A_at, B_at, B_looks, about, byte_of, ceiling_at, ceiling_of, clutch_reason_at, driven_facts, early_fault}
unfoldable pub use Rattle.rules.specs.Why.{gear_facts, gear_list, kind, listed_power, minimum_role, minimum_rule, next_rule, no_facts, nothing}
unfoldable pub use Rattle.rules.specs.Why.{pedal_down, role_code}
unfoldable pub use Rattle.rules.specs.Why.{row_fault, said_of, sentence, why, why_end, why_fault, why_lo}
pub use Rattle.rules.specs.Words.{at, if◌then◌else◌, part}
unfoldable pub use Rattle.rules.specs.Words.{◌and◌, ◌or◌, every, first, highest, nearest, pass, patch, table, within}
unfoldable pub use Rattle.rules.specs.Write.{checks_fault, job_bytes, write_fault, write_room}
pub use Rattle.rules.proofs.Laws.Buttons.{zero_as_over}
pub use Rattle.rules.proofs.Laws.Cards.{byte_gear, card_mod, first_at_is, fit_of, gear_in_range}
pub use Rattle.rules.proofs.Laws.Checks.{Taken, accepted, driven, gears_last, left_none, left_some, listed, none_orelse, none_when, orelse_assoc}
pub use Rattle.rules.proofs.Laws.Checks.{orelse_none, passed, refuse_none, rooms_in, step_passed, taken, trace_in, vehicle_in, when_none}
pub use Rattle.rules.proofs.Laws.Choice.{choice_none_fits, choose-highest, choose-strongest, choose_to, first_choice_plainly}
pub use Rattle.rules.proofs.Laws.Closing.{closing_end, closing-here, closing-part}
pub use Rattle.rules.proofs.Laws.Counted.{counts_by_range}
pub use Rattle.rules.proofs.Laws.Edits.{anew, hold_no_speed, length_asked, length-holds, mend_no_hold, own-checks, refused_alone, release_no_speed}
pub use Rattle.rules.proofs.Laws.Edits.{span_passes, taken_asked}
pub use Rattle.rules.proofs.Laws.Forms.{Sound, bounded_sound, many_sound, says_now, value_sound}
pub use Rattle.rules.proofs.Laws.Gathers.{HoldFits, gather_few, hold_sound, length-put, takes_hold}
pub use Rattle.rules.proofs.Laws.Groups.{form-one, form_size, form_three, form_two}
pub use Rattle.rules.proofs.Laws.Held.{first_is, length_A, length_B, length-firsts, peak_fixed, rising_fixed, slowing_fixed}
pub use Rattle.rules.proofs.Laws.Integers.{*ℤ-+ℤ, *ℤ_neg, +ℤ-*ℤ, add_back, leZ_scale, leZ_trans, neg_*ℤ, pos_sub}
pub use Rattle.rules.proofs.Laws.Jobs.{Even, job_even, job_room, point_sound}
pub use Rattle.rules.proofs.Laws.Limits.{floor-low, higher}
pub use Rattle.rules.proofs.Laws.Lines.{decimal-more, decimal-one, decimal_short, line_short, lines_more, room_alone}
unfoldable pub use Rattle.rules.proofs.Laws.Lines.{tens}
pub use Rattle.rules.proofs.Laws.Nested.{required-nested}
pub use Rattle.rules.proofs.Laws.Power.{segment-holds, segment_unique}
pub use Rattle.rules.proofs.Laws.Range.{E, ◌⊕◌, ◌⊖◌, ◌⊗◌, from_i32_fits, is, le_read, lit, lt_read, natAbs_gap, product, rd, read, result, small_i32}
pub use Rattle.rules.proofs.Laws.Range.{var}
pub use Rattle.rules.proofs.Laws.Reading.{ends_first, ends_second, ends_third, good, one, three, three_bad, three_if, three_of, two, two_bad, two_of}
pub use Rattle.rules.proofs.Laws.Refusals.{brought_once, handed_up, refusal_once, said_once}
pub use Rattle.rules.proofs.Laws.Rooms.{filled_beyond, left_beyond}
pub use Rattle.rules.proofs.Laws.Searches.{Found, first_found, first_none, highest-holds, highest_none, none_first}
pub use Rattle.rules.proofs.Laws.Sizes.{Q_size, derated_is, required_size, w_size}
pub use Rattle.rules.proofs.Laws.Span.{span-kept}
pub use Rattle.rules.proofs.Laws.Strongest.{fits_from, gear_wide, more_asym, no_more_trans, strongest-fits}
pub use Rattle.rules.proofs.Laws.Summary.{same_counts, tally_add, tally_le, tally-shift, updated_right}
unfoldable pub use Rattle.rules.proofs.Laws.Summary.{counts}
pub use Rattle.rules.proofs.Laws.Takes.{in_range}
pub use Rattle.rules.proofs.Laws.Told.{Told, edit_told, room_told, summary_told, told_at, told-checks, told_from_1, told_or, told-when, trace-told}
pub use Rattle.rules.proofs.Laws.Told.{work-told, write-told}
pub use Rattle.rules.proofs.Laws.ToldReading.{ToldRead, job-told, told-demand, told_got, told-refused, told_then}
pub use Rattle.rules.proofs.Laws.Trips.{moving_in, standing_past, start-before, start_le, stop-after, stop_in, stop_le, stop_standing, stop_to, trip_of}
pub use Rattle.rules.proofs.Laws.Trips.{trip_start, trip_stop}
pub use Rattle.rules.proofs.Laws.Vehicle.{low_from, no_margins, no_profile, same_bounds, within_hi, within_lo}
pub use Rattle.rules.proofs.Laws.Walk.{Every, Left, again, all_again, all_ends, all_start, all_stops, one_holds, stops}
pub use Rattle.rules.proofs.Laws.Words.{and-fails, and_left, and_no, and_right, at_part, at_table, both, by_eq, by_order, by_test, clash, if_ind}
pub use Rattle.rules.proofs.Laws.Words.{length_part, length-pass, length-table, of₃, of₄, of₅, of₈, or_left, or_right, or_skip, pass-at, pass_done}
pub use Rattle.rules.proofs.Laws.Words.{pass-holds, pass_later, patch_in, patch_out, table_add, table_at, table_ext}
pub use Rattle.rules.proofs.Laws.Writes.{points_many, shifted, writable}
