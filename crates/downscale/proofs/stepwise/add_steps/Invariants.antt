use Rattle.downscale.proofs.Stepping.{Stepped}
use Rattle.downscale.proofs.stepwise.add_steps.Given as goal

abbrev pub invariant-loop-speed : goal.invariant-loop-speed
invariant-loop-speed l = Stepped l.first l.whole l.factor l.sum l.initial.speed-items l.speed-index l.before l.total l.speed-items
