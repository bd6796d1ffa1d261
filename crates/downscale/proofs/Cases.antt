-- Sums done by hand: the rise of the scaled cycle, second by second, and what is refused.
use Rattle.rules.proofs.Offered.{◌≡◌, refl, none, List, [], ◌∷◌, nearest, ◌and◌, within, refuse_at, ◌orelse◌, when}
use Rattle.rules.proofs.Cases.Rows.{Row, row, numbers, refusal, refused_by, sums, papers}
use Rattle.cycles.specs.Cycle.{cycle, low_phase, medium_phase, high_phase, extra_high_phase}
use Rattle.downscale.specs.Steps.{own, steps, rise_steps, by_stretch, scaled_at, down_fault}

rows : List Row
rows =
    -- factor 0 gives the cycle back; by 250 thousandths the seconds after 1533 are 60.3, 61.05 and 62.4: halves up, and nothing rounded on the way
    row (numbers (scaled_at 0 1533 ∷ scaled_at 0 1534 ∷ scaled_at 0 1535 ∷ scaled_at 0 1536 ∷ [])) (numbers (600 ∷ 604 ∷ 614 ∷ 632 ∷ []))
    ∷ row (numbers (scaled_at 250 1533 ∷ scaled_at 250 1534 ∷ scaled_at 250 1535 ∷ scaled_at 250 1536 ∷ [])) (numbers (600 ∷ 603 ∷ 611 ∷ 624 ∷ []))
    ∷ row (refusal (down_fault 501 0)) (refused_by 23 0)
    ∷ row (refusal (down_fault 500 1800)) (refused_by 2 0)
    ∷ row (refusal (down_fault 500 1802)) (refused_by 2 0)
    ∷ row (refusal (down_fault 500 1801)) (refusal none)
    ∷ []

scaled_on_paper : sums rows ≡ papers rows
unfolding sums papers rows row refused_by cycle low_phase medium_phase high_phase extra_high_phase own steps rise_steps by_stretch scaled_at down_fault
    nearest ◌and◌ within refuse_at ◌orelse◌ when
scaled_on_paper = refl
