-- At the first second, and at the last.
use Rattle.rules.proofs.Offered.{sym, ◌∙◌}
use Rattle.checks.specs.Asked.{speeds_in}
use Rattle.checks.proofs.Through.{length_speeds}
use Rattle.checks.proofs.Tests.{ends_standing, ends_first, ends_last}
use Rattle.checks.proofs.seconds.end_moving.Goals as goal

pub returns-then-i-eq0 : goal.returns-then-i-eq0
returns-then-i-eq0 c = λ car hs lo.
    ends_first car (speeds_in c.args.trace) hs lo c.args.i (rw (← c.speed_at.ensures) (sym c.if-moving.ensures)) c.if-i-eq0.true

pub returns-else-i-eq0 : goal.returns-else-i-eq0
returns-else-i-eq0 c = λ car hs lo.
    let t = c.args.trace in
    ends_last car (speeds_in t) hs lo c.args.i (rw (← c.speed_at.ensures) (sym c.if-moving.ensures)) c.if-i-eq0.false (sym (length_speeds t.asked _))

pub returns-else-moving : goal.returns-else-moving
returns-else-moving c = λ car hs lo.
    c.if-moving.false ∙ ends_standing car (speeds_in c.args.trace) hs lo c.args.i (rw (← c.speed_at.ensures) (sym c.if-moving.ensures))
