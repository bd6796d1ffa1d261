-- One law for each `return`.
use Rattle.rules.proofs.Offered.{arith}
use Rattle.reading.proofs.GroupAnswers.{bounded_stops, bounded_refuses, bounded_gives}
use Rattle.reading.proofs.groups.bounded.Goals as goal

pub returns-in_default : goal.returns-in_default
returns-in_default c = rw c.in_default.is (bounded_stops _ _ _ _ _ _ c.in_default.ensures)

pub returns-then-value-lo : goal.returns-then-value-lo
returns-then-value-lo c = bounded_refuses _ _ _ _ _ _ c.in-Ok.ensures (λ x y. omega arith)

pub returns : goal.returns
returns c = bounded_gives _ _ _ _ _ _ c.in-Ok.ensures (omega arith) (omega arith)
