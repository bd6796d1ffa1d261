-- One law for each `return`, by what was read before it; and what was judged is put into the rooms as it was judged.
use Rattle.rules.proofs.Offered.{arith, handed_up}
use Rattle.reading.proofs.GroupAnswers.{bounded_in}
use Rattle.reading.proofs.WholeJob.{top, car_stops, count_stops, no_room, speeds_stop, speeds_come, number_stops, holds_stop, holds_come}
use Rattle.reading.proofs.WholeJob.{more_bytes, all_read}
use Rattle.reading.proofs.read.Goals as goal

pub returns-in_err-car : goal.returns-in_err-car
returns-in_err-car c = rw (handed_up c.from_residual.ensures.1) (car_stops _ _ _ c.in_err-car.ensures)

pub returns-in_default : goal.returns-in_default
returns-in_default c = count_stops _ _ _ c.in_ok-car.ensures (rw c.unwrap_err.ensures at c.bounded-group.ensures)

pub returns-then-speeds-count : goal.returns-then-speeds-count
returns-then-speeds-count c =
    no_room _ _ _ c.in_ok-car.ensures c.in-Ok.ensures c.from-count.ensures (λ x y. omega (arith, c.then-speeds-count.either))

pub returns-in_err-at : goal.returns-in_err-at
returns-in_err-at c =
    rw (handed_up c.from_residual-in_err-at.ensures.1)
    (speeds_stop _ _ _ c.in_ok-car.ensures c.in-Ok.ensures c.from-count.ensures (omega arith) (omega arith) c.in_err-at.ensures)

pub returns-in_default-group : goal.returns-in_default-group
returns-in_default-group c =
    number_stops _ _ _ c.in_ok-car.ensures c.in-Ok.ensures c.from-count.ensures (omega arith) (omega arith) c.in_ok-at.ensures
    (rw c.unwrap_err-in_default-group.ensures at c.group_at-group.ensures)

pub judge_holds-requires : goal.judge_holds-requires
judge_holds-requires c = (bounded_in _ 1 top 1 0 _ c.in-Ok.ensures).0

pub returns-in_err-end : goal.returns-in_err-end
returns-in_err-end c =
    rw (handed_up c.from_residual-in_err-end.ensures.1)
    (holds_stop _ _ _ c.in_ok-car.ensures c.in-Ok.ensures c.from-count.ensures (omega arith) (omega arith) c.in_ok-at.ensures
    c.in-Ok-group.ensures c.from-held.ensures c.in_err-end.ensures)

pub returns-then-end-job : goal.returns-then-end-job
returns-then-end-job c =
    more_bytes _ _ _ c.in_ok-car.ensures c.in-Ok.ensures c.from-count.ensures (omega arith) (omega arith) c.in_ok-at.ensures
    c.in-Ok-group.ensures c.from-held.ensures c.in_ok-end.ensures (λ e. omega arith)

pub fill_speeds-requires : goal.fill_speeds-requires
fill_speeds-requires c =
    speeds_come c.args.job.now c.args.speeds.now c.args.holds.now c.in_ok-car.ensures c.in-Ok.ensures c.from-count.ensures (omega arith)
    (omega arith) c.in_ok-at.ensures

pub fill_holds-requires : goal.fill_holds-requires
fill_holds-requires c =
    holds_come c.args.job.now c.args.speeds.now c.args.holds.now c.in_ok-car.ensures c.in-Ok.ensures c.from-count.ensures (omega arith)
    (omega arith) c.in_ok-at.ensures c.in-Ok-group.ensures c.from-held.ensures c.in_ok-end.ensures

pub returns : goal.returns
returns c =
    all_read _ _ _ c.in_ok-car.ensures c.in-Ok.ensures c.from-count.ensures (omega arith) (omega arith) c.in_ok-at.ensures
    c.in-Ok-group.ensures c.from-held.ensures c.in_ok-end.ensures (omega arith) c.fill_speeds.ensures c.fill_holds.ensures
