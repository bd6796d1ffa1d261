use Rattle.rules.proofs.Offered.{◌≡◌, ◌+◌, ◌-◌, arith}
use Rattle.trips.proofs.Closing.{run_start, run_never, run_more, run_stops}
use Rattle.trips.proofs.slowing.closing_from.Goals as goal

pub returns-then-moving : goal.returns-then-moving
returns-then-moving c = run_never _ c.requires.0 _ (omega arith) (rw c.moving.ensures at c.if-moving.true)

pub loop-j-init : goal.loop-j-init
loop-j-init c = run_start _ _ (omega arith) (rw c.moving.ensures at c.if-moving.false)

pub returns-then-us-j : goal.returns-then-us-j
returns-then-us-j c =
    let e : c.loop-j.j - 1 + 1 ≡ c.loop-j.j = omega arith in
    rw e (run_stops _ c.loop-j.invariant c.requires.0 (omega arith) (rw e at c.if-us-j.true))

pub loop-j-preserved : goal.loop-j-preserved
loop-j-preserved c =
    let e : c.loop-j.j - 1 + 1 ≡ c.loop-j.j = omega arith in
    run_more _ c.loop-j.invariant (omega arith) (rw e at c.if-us-j.false)
