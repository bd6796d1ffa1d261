-- `checks::trips_asked::stop_asked` meets its contract: each second passed is moving.
use Rattle.rules.proofs.Offered.{length, arith, ◌≡◌, true, false, sym, ap, ◌∙◌, at, moving}
use Rattle.checks.specs.Asked.{speeds_in}
use Rattle.checks.proofs.Through.{length_speeds}
use Rattle.checks.proofs.Scans.{stop-here, stop-more, stop_end}
use Rattle.checks.proofs.trips_asked.stop_asked.Goals as goal

pub returns-then-not-moving : goal.returns-then-not-moving
returns-then-not-moving c =
    let t = c.args.trace in
    let stands : moving (at (speeds_in t) c.loop-k.k) ≡ false = ap moving (sym c.speed_at.ensures) ∙ sym c.moving.ensures ∙ c.if-not-moving.true in
    stop-here (speeds_in t) c.loop-k.k (omega (arith, length_speeds t.asked t.speeds.now)) stands ∙ sym c.loop-k.invariant

pub loop-k-preserved : goal.loop-k-preserved
loop-k-preserved c =
    let t = c.args.trace in
    let moves : moving (at (speeds_in t) c.loop-k.k) ≡ true = ap moving (sym c.speed_at.ensures) ∙ sym c.moving.ensures ∙ c.if-not-moving.false in
    c.loop-k.invariant ∙ stop-more (speeds_in t) c.loop-k.k (omega (arith, length_speeds t.asked t.speeds.now)) moves

pub returns : goal.returns
returns c =
    let t = c.args.trace in
    let e : length t.speeds.now ≡ c.loop-k.k = omega (arith, c.loop-k.auto.k-end c.requires) in
    e ∙ stop_end (speeds_in t) c.loop-k.k (omega (arith, length_speeds t.asked t.speeds.now)) ∙ sym c.loop-k.invariant
