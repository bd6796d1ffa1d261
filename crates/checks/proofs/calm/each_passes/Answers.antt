-- One second further.
use Rattle.rules.proofs.Offered.{arith, refl, sym}
use Rattle.checks.proofs.OnePass.{held_passes}
use Rattle.checks.proofs.Calmness.{each_more, hold_passes}
use Rattle.checks.proofs.calm.each_passes.Goals as goal
use Rattle.checks.proofs.calm.each_passes.Goals.{else-held-ne0-via-then-held-ne0+else-is_err, else-held-ne0-via-else-held-ne0}

pub loop-i-preserved : goal.loop-i-preserved
loop-i-preserved c =
    let vs = c.args.trace.speeds.now in
    let hs = c.args.trace.holds.now in
    each_more _ _ _ c.loop-i.invariant
    (elim c.else-held-ne0.branch [
      | else-held-ne0-via-then-held-ne0+else-is_err w ↦
          hold_passes c.args.car.now vs hs 0 c.loop-i.i
          (held_passes c.args.car.now vs hs 0 c.loop-i.i _ (w.check_held.ensures vs hs 0 refl refl) (sym w.if-is_err.ensures.value))
      | else-held-ne0-via-else-held-ne0 w ↦ λ h vs hs lo i v g. absurd (h (omega arith))
    ])
