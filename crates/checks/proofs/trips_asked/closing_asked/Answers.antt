-- `checks::trips_asked::closing_asked` meets its contract: the trip's speeds are a part of the trace's.
use Rattle.rules.proofs.Offered.{ℕ, suc, ◌+◌, ◌-◌, ◌≤◌, ◌<◌, arith, ◌≡◌, sym, ◌∙◌, List, at, part, at_part}
use Rattle.trips.proofs.Closing.{run_more, run_stops}
use Rattle.checks.specs.Want.{Ahead}
use Rattle.checks.proofs.Dry.{trip_moves, trip_closes}
use Rattle.checks.proofs.trips_asked.closing_asked.Goals as goal

-- two seconds of the trip in a row, or its last and the one after it, counted from the trip's first
its_speeds : {vs : List ℕ} {a b i v next : ℕ} → Ahead vs a b → a < i → i ≤ b → v ≡ at vs (i - 1) → next ≡ at vs (i - 1 + 1)
    → (at (part vs a (suc b)) (i - a - 1) ≡ v) × (at (part vs a (suc b)) (i - a) ≡ next)
its_speeds {vs} {a} {b} {i} A from to e f =
    let x : a + (i - a - 1) ≡ i - 1 = omega arith in
    let y : a + (i - a) ≡ i - 1 + 1 = omega arith in (
      at_part vs a (suc b) (i - a - 1) (omega (arith, A.inside)) ∙ rw x (sym e),
      at_part vs a (suc b) (i - a) (omega (arith, A.inside)) ∙ rw y (sym f),
    )

pub loop-i-init : goal.loop-i-init
loop-i-init c = trip_closes c.requires

pub returns-then-speed_at : goal.returns-then-speed_at
returns-then-speed_at c =
    let i = c.loop-i.i in
    let at_two = its_speeds c.requires c.loop-i-test.true c.loop-i.auto.i c.speed_at.ensures c.speed_at-in-loop-i.ensures in
    let e : i - 1 + 1 ≡ i = omega arith in
    rw e (run_stops _ c.loop-i.invariant (trip_moves c.requires) (omega arith) (omega (arith, at_two)))

pub loop-i-preserved : goal.loop-i-preserved
loop-i-preserved c =
    let i = c.loop-i.i in
    let at_two = its_speeds c.requires c.loop-i-test.true c.loop-i.auto.i c.speed_at.ensures c.speed_at-in-loop-i.ensures in
    let e : i - 1 - c.args.trip.lo ≡ i - c.args.trip.lo - 1 = omega arith in
    rw e (run_more _ c.loop-i.invariant (omega arith) (omega (arith, at_two)))
