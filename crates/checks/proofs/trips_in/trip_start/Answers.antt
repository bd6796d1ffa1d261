-- Each way out of the scan and each second of it, as the definition has it.
use Rattle.rules.proofs.Offered.{arith, sym, ◌∙◌}
use Rattle.checks.proofs.Scans.{start_zero, start-here, start-more}
use Rattle.checks.proofs.trips_in.trip_start.Goals as goal

pub returns-then-not-moving : goal.returns-then-not-moving
returns-then-not-moving c = start-here c.args.speeds.now _ (omega arith) (sym c.if-not-moving.ensures) ∙ sym c.loop-k.invariant

pub loop-k-preserved : goal.loop-k-preserved
loop-k-preserved c = c.loop-k.invariant ∙ start-more c.args.speeds.now _ (omega arith) (sym c.if-not-moving.ensures)

pub returns : goal.returns
returns c = start_zero c.args.speeds.now _ (omega arith) ∙ sym c.loop-k.invariant
