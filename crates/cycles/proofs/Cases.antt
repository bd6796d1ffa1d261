-- Sums done on paper: the numbers that Annex 1 and request Three print of the cycle and of its parts.
use Rattle.rules.proofs.Offered.{◌≡◌, refl, true, none, List, [], ◌∷◌, length, ◌and◌, ◌or◌, moving, refuse_at, ◌orelse◌, when}
use Rattle.rules.proofs.Cases.Rows.{Row, row, numbers, test, refusal, refused_by, sums, papers}
use Rattle.cycles.specs.Cycle.{cycle, low_phase, medium_phase, high_phase, extra_high_phase, speed_sum}
use Rattle.cycles.specs.Parts.{cycle_seconds, first_second, last_second, fill_fault}
use Rattle.cycles.proofs.Sound.{walk, boundary, close, sound}

rows : List Row
rows =
    -- 1,801 seconds; the sums of Table A1/13, in tenths: 11140.3, 17121.2, 25782.2 and 29714.9
    row (numbers (length cycle ∷ [])) (numbers (1801 ∷ []))
    ∷ row (numbers (speed_sum low_phase ∷ speed_sum medium_phase ∷ speed_sum high_phase ∷ speed_sum extra_high_phase ∷ []))
    (numbers (111403 ∷ 171212 ∷ 257822 ∷ 297149 ∷ []))
    -- no speed over 2,000, no step over 150, at rest where a part begins or ends
    ∷ row (test (walk sound 0 0 cycle)) (test true)
    -- seconds 0 to 589, 589 to 1022, 1022 to 1477, 1477 to 1800
    ∷ row (numbers (first_second 0 ∷ first_second 1 ∷ first_second 2 ∷ first_second 3 ∷ first_second 4 ∷ [])) (numbers (0 ∷ 0 ∷ 589 ∷ 1022 ∷ 1477 ∷ []))
    ∷ row (numbers (last_second 0 ∷ last_second 1 ∷ last_second 2 ∷ last_second 3 ∷ last_second 4 ∷ [])) (numbers (1800 ∷ 589 ∷ 1022 ∷ 1477 ∷ 1800 ∷ []))
    -- 18 before 2; part 4 in a room of 1,801 is filled
    ∷ row (refusal (fill_fault 5 0)) (refused_by 18 0)
    ∷ row (refusal (fill_fault 4 1800)) (refused_by 2 0)
    ∷ row (refusal (fill_fault 4 1801)) (refusal none)
    ∷ []

cycle_on_paper : sums rows ≡ papers rows
unfolding sums papers rows row refused_by cycle low_phase medium_phase high_phase extra_high_phase speed_sum cycle_seconds first_second last_second fill_fault
    walk boundary close sound moving ◌and◌ ◌or◌ refuse_at ◌orelse◌ when
cycle_on_paper = refl
