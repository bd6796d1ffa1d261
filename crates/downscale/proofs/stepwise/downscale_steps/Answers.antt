-- Refused, or the cycle with its two stretches stepped.
use Rattle.rules.proofs.Offered.{◌+◌, ◌-◌, ◌*◌, arith, ◌≡◌, ◌≤◌, sym, ◌∙◌, none, length, rules, said, left}
use Rattle.cycles.specs.Cycle.{cycle}
use Rattle.downscale.specs.Steps.{down_fault, down_room}
use Rattle.downscale.proofs.ScaledRoom.{accepted_factor, accepted_length, fills, filled-cycle, rise_begins, peak_is, fall_begins, stepped_whole}
use Rattle.downscale.proofs.stepwise.downscale_steps.Goals as goal
use Rattle.downscale.proofs.stepwise.downscale_steps.Goals.{In_ok-check_factor, After-from-f, After-add_steps-peak}

-- past the check nothing is refused
fine : (c : In_ok-check_factor) → down_fault c.args.factor (length c.args.room.now) ≡ none
unfolding said
fine c = sym c.in_ok-check_factor.ensures

-- so the factor is at most 500, and past the filling the room is the cycle
module _ (c : After-from-f) (e : down_fault c.args.factor (length c.args.room.now) ≡ none) where
  f_fine : c.from-f.result ≤ 500
  f_fine = rw c.from-f.ensures (accepted_factor _ _ e)

  filled_is : c.fill.new.room ≡ cycle
  filled_is = c.fill.ensures.room ∙ filled-cycle _ (accepted_length c.args.factor _ e)

-- the numerator of the peak
peak_there : (c : After-add_steps-peak) → c.from-f.result ≤ 500 → c.add_steps-peak.result ≡ (1000 - c.from-f.result) * 1313 + c.from-f.result * 600
peak_there c h = peak_is _ h c.add_steps-peak.ensures.sum

pub returns-in_err-check_factor-clause-room : goal.returns-in_err-check_factor-clause-room
unfolding said down_room left
returns-in_err-check_factor-clause-room c = rw (← c.in_err-check_factor.ensures)

pub returns-in_err-fill : goal.returns-in_err-fill
returns-in_err-fill c = absurd (fills _ _ _ (fine (goal.at.returns-in_err-fill c).In_ok-check_factor) c.in_err-fill.ensures.answer)

pub overflow_sub-f : goal.overflow_sub-f
overflow_sub-f c = let p = goal.at.overflow_sub-f c in let h = f_fine p.After-from-f (fine p.In_ok-check_factor) in omega arith

pub add_steps-peak-requires : goal.add_steps-peak-requires
add_steps-peak-requires c =
    let p = goal.at.add_steps-peak-requires c in
    let e = fine p.In_ok-check_factor in
    rise_begins _ (f_fine p.After-from-f e) (filled_is p.After-from-f e)

pub overflow_sub-peak : goal.overflow_sub-peak
overflow_sub-peak c =
    let p = goal.at.overflow_sub-peak c in
    let h = f_fine p.After-from-f (fine p.In_ok-check_factor) in
    omega (arith, peak_there p.After-add_steps-peak h)

pub overflow_mul-peak : goal.overflow_mul-peak
overflow_mul-peak c =
    let p = goal.at.overflow_mul-peak c in
    let h = f_fine p.After-from-f (fine p.In_ok-check_factor) in
    let m = peak_there p.After-add_steps-peak h in
    search rules

pub add_steps-requires : goal.add_steps-requires
add_steps-requires c =
    let p = goal.at.add_steps-requires c in
    let e = fine p.In_ok-check_factor in
    let h = f_fine p.After-from-f e in
    fall_begins _ h (filled_is p.After-from-f e) c.add_steps-peak.ensures.room (peak_there p.After-add_steps-peak h)

pub returns-clause-room : goal.returns-clause-room
unfolding down_room left
returns-clause-room c =
    let p = goal.at.returns-clause-room c in
    let e = fine p.In_ok-check_factor in
    let h = f_fine p.After-from-f e in
    let q = c.add_steps-peak.ensures in
    rw (e, ← c.from-f.ensures) (stepped_whole _ h (filled_is p.After-from-f e) q.room (peak_there p.After-add_steps-peak h) c.add_steps.ensures.room)
