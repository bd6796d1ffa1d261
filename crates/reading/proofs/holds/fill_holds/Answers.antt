-- The loop's ways on, by what each group of a hold gave.
use Rattle.rules.proofs.Offered.{arith}
use Rattle.reading.proofs.Loops.{put_begins, put_ends, put_short, gear_there, gear_ends, second_fits, put_again}
use Rattle.reading.proofs.holds.fill_holds.Goals as goal

pub loop-init : goal.loop-init
loop-init c = rw (c.fill.ensures.after (λ y h. h)) (put_begins _ _ _ _ _ c.requires.0 c.requires.1)

pub short_at-second-requires : goal.short_at-second-requires
short_at-second-requires c = put_short c.loop.invariant (omega arith)

pub bounds-job-then : goal.bounds-job-then
bounds-job-then c = gear_there c.loop.invariant (omega arith) c.short_at-second.ensures

pub bounds-room-second : goal.bounds-room-second
bounds-room-second c =
    omega (arith, second_fits c.loop.invariant (omega arith) c.short_at-second.ensures (omega (arith, c.type_inv.job c.short_at-second.result.1)))

pub overflow_add-place : goal.overflow_add-place
overflow_add-place c = omega (arith, gear_there c.loop.invariant (omega arith) c.short_at-second.ensures)

pub overflow_add-place-in-loop : goal.overflow_add-place-in-loop
overflow_add-place-in-loop c =
    omega (arith, gear_ends c.loop.invariant (omega arith) c.short_at-second.ensures (omega (arith, c.type_inv.job c.short_at-second.result.1)))

pub loop-preserved : goal.loop-preserved
loop-preserved c =
    rw c.from.ensures
    (put_again c.loop.invariant (omega arith) c.short_at-second.ensures (omega (arith, c.type_inv.job c.short_at-second.result.1)))

pub returns : goal.returns
returns c = put_ends c.loop.invariant (omega arith)
