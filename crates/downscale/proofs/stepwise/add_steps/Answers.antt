-- The steps taken so far are the definition's; at the end they are all that the stretch has.
use Rattle.downscale.proofs.Stepping.{start, asks, rounds, again}
use Rattle.downscale.proofs.stepwise.add_steps.Goals as goal

pub loop-speed-init : goal.loop-speed-init
loop-speed-init c = start c.requires

pub step_on-total-requires : goal.step_on-total-requires
step_on-total-requires c = asks c.requires _ _ _ c.loop-speed.invariant c.loop-speed-test.true

pub nearest-requires : goal.nearest-requires
nearest-requires c = rounds c.requires _ _ _ c.loop-speed.invariant c.loop-speed-test.true _ c.step_on-total.ensures

pub loop-speed-preserved : goal.loop-speed-preserved
loop-speed-preserved c =
    again c.requires _ _ _ c.loop-speed.invariant c.loop-speed-test.true _ c.step_on-total.ensures _ c.nearest.ensures
