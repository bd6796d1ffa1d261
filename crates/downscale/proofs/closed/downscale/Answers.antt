-- Refused, or the cycle with its two stretches drawn.
use Rattle.rules.proofs.Offered.{arith, ◌≡◌, ap, sym, ◌∙◌, none, length, said, left}
use Rattle.cycles.specs.Cycle.{cycle}
use Rattle.cycles.proofs.Table.{length-cycle}
use Rattle.downscale.specs.Steps.{down_fault, down_room}
use Rattle.downscale.proofs.ScaledRoom.{accepted_factor, accepted_length, fills, filled-cycle, rise_draws, fall_draws, drawn-whole}
use Rattle.downscale.proofs.closed.downscale.Goals as goal
use Rattle.downscale.proofs.closed.downscale.Goals.{In_ok-check_factor, In_ok-fill}

-- past the check nothing is refused
fine : (c : In_ok-check_factor) → down_fault c.args.factor (length c.args.room.now) ≡ none
unfolding said
fine c = sym c.in_ok-check_factor.ensures

-- and past the filling the room is the cycle
filled_is : (c : In_ok-fill) → down_fault c.args.factor (length c.args.room.now) ≡ none → c.fill.new.room ≡ cycle
filled_is c e = c.fill.ensures.room ∙ filled-cycle _ (accepted_length c.args.factor _ e)

pub returns-in_err-check_factor-clause-room : goal.returns-in_err-check_factor-clause-room
unfolding said down_room left
returns-in_err-check_factor-clause-room c = rw (← c.in_err-check_factor.ensures)

pub returns-in_err-fill : goal.returns-in_err-fill
returns-in_err-fill c = absurd (fills _ _ _ (fine (goal.at.returns-in_err-fill c).In_ok-check_factor) c.in_err-fill.ensures.answer)

pub draw-requires : goal.draw-requires
draw-requires c =
    let p = goal.at.draw-requires c in
    let e = fine p.In_ok-check_factor in
    (rw c.from-f.ensures (rise_draws _ (accepted_factor _ _ e)), omega arith, omega (arith, ap length (filled_is p.In_ok-fill e), length-cycle))

pub draw-requires-2 : goal.draw-requires-2
draw-requires-2 c =
    let p = goal.at.draw-requires-2 c in
    let e = fine p.In_ok-check_factor in (
      rw c.from-f.ensures (fall_draws _ (accepted_factor _ _ e)),
      omega arith,
      omega (arith, c.draw.ensures.size, ap length (filled_is p.In_ok-fill e), length-cycle),
    )

pub returns-clause-room : goal.returns-clause-room
unfolding down_room left
returns-clause-room c =
    let p = goal.at.returns-clause-room c in
    let e = fine p.In_ok-check_factor in
    rw e (drawn-whole _ (accepted_factor _ _ e) (filled_is p.In_ok-fill e) (rw c.from-f.ensures at c.draw.ensures) (rw c.from-f.ensures at c.draw-2.ensures))
