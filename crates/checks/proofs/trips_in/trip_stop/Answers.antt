-- Each way out of the scan and each second of it, as the definition has it.
use Rattle.rules.proofs.Offered.{arith, ◌≡◌, sym, ◌∙◌, length}
use Rattle.checks.proofs.Scans.{stop-here, stop-more, stop_end}
use Rattle.checks.proofs.trips_in.trip_stop.Goals as goal

pub returns-then-not-moving : goal.returns-then-not-moving
returns-then-not-moving c = stop-here c.args.speeds.now _ (omega arith) (sym c.if-not-moving.ensures) ∙ sym c.loop-k.invariant

pub loop-k-preserved : goal.loop-k-preserved
loop-k-preserved c = c.loop-k.invariant ∙ stop-more c.args.speeds.now _ (omega arith) (sym c.if-not-moving.ensures)

pub returns : goal.returns
returns c =
    let e : length c.args.speeds.now ≡ c.loop-k.k = omega (arith, c.loop-k.auto.k-end c.requires) in
    e ∙ stop_end c.args.speeds.now _ (omega arith) ∙ sym c.loop-k.invariant
