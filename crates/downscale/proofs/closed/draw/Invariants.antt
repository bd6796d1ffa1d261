use Rattle.rules.proofs.Offered.{at}
use Rattle.downscale.specs.Closed.{drawn_speed, Changed}
use Rattle.downscale.proofs.closed.draw.Given as goal

abbrev pub invariant-loop-speed : goal.invariant-loop-speed
invariant-loop-speed l =
    Changed (λ j. drawn_speed l.whole l.parts l.rest (at l.initial.speed-items j)) 0 l.speed-index l.initial.speed-items l.speed-items
