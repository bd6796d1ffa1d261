-- The loop's ways on, by what each group of a hold gave.
use Rattle.rules.proofs.Offered.{arith, add-one}
use Rattle.reading.proofs.GroupAnswers.{bounded_in, second_stops, gear_stops, hold_gives}
use Rattle.reading.proofs.Loops.{holds_begin, ends, stops, again}
use Rattle.reading.proofs.holds.judge_holds.Goals as goal

pub loop-init : goal.loop-init
loop-init c = holds_begin _ _ _ _ _

pub returns-in_default : goal.returns-in_default
returns-in_default c =
    stops c.loop.invariant (omega arith) (second_stops _ _ _ _ c.requires (rw c.unwrap_err.ensures at c.bounded-group.ensures))

pub returns-in_default-group : goal.returns-in_default-group
returns-in_default-group c =
    stops c.loop.invariant (omega arith)
    (gear_stops _ _ _ _ c.requires c.in-Ok.ensures (rw c.unwrap_err-in_default-group.ensures at c.bounded-group-in-loop.ensures))

pub overflow_add-next : goal.overflow_add-next
overflow_add-next c = omega (arith, bounded_in _ _ _ _ _ _ c.in-Ok.ensures)

pub loop-preserved : goal.loop-preserved
loop-preserved c =
    rw (add-one c.in-Ok.second) (again c.loop.invariant (omega arith) (hold_gives _ _ _ _ c.requires c.in-Ok.ensures c.in-Ok-group.ensures))

pub returns : goal.returns
returns c = ends c.loop.invariant (omega arith)
