-- Of one second more the lower of what is kept and of what that second fails.
use Rattle.rules.proofs.Offered.{◌+◌, arith, ◌≡◌, refl, sym, ◌∙◌, said, seconds_fault}
use Rattle.checks.specs.Asked.{speeds_in, holds_in}
use Rattle.checks.specs.Checks.{lower}
use Rattle.checks.proofs.OnePass.{seconds_none, seconds_more, least_of, lower_than, lower_not, lower_none, kept_below}
use Rattle.checks.proofs.seconds.judge_seconds.Goals as goal
use Rattle.checks.proofs.seconds.judge_seconds.Goals.{in-Err+then-number-least, in-Err+else-number-least, in_default}

pub loop-i-init : goal.loop-i-init
unfolding said least_of
loop-i-init c = record { same = seconds_none _ _ _ _; number = refl }

pub loop-i-preserved : goal.loop-i-preserved
unfolding said least_of
loop-i-preserved c =
    let inv = c.loop-i.invariant in
    let is = c.check_second.ensures (holds_in c.args.trace) (sym c.hold_at.ensures) in
    let next : lower (said c.loop-i.first) (said c.check_second.result)
    ≡ seconds_fault c.args.car.now (speeds_in c.args.trace) (holds_in c.args.trace) c.args.span.lo (c.loop-i.i + 1) =
    rw (inv.same, is) (seconds_more _ _ _ _ _ (omega arith)) in
    elim c.match-check_second.branch [
      | in-Err+then-number-least w ↦
          let less = lower_than (said c.loop-i.first) _ (omega (arith, w.number-number.ensures, inv.number, w.if-number-least.true)) in
          record { same = rw w.first-is (sym less ∙ (rw w.in-Err.is at next)); number = rw (w.first-is, w.least-is) w.number-number.ensures }
      | in-Err+else-number-least w ↦
          let below = kept_below _ _ _ (sym (rw w.in-Err.is at is)) in
          let no_less = lower_not (said c.loop-i.first) _ below (omega (arith, w.number-number.ensures, inv.number, w.if-number-least.false)) in
          record { same = rw w.first-is (sym no_less ∙ (rw w.in-Err.is at next)); number = rw (w.first-is, w.least-is) inv.number }
      | in_default w ↦
          let none = lower_none (said c.loop-i.first) in
          record { same = rw w.first-is (sym none ∙ (rw w.in_default.is at next)); number = rw (w.first-is, w.least-is) inv.number }
    ]
