use Rattle.rules.specs.Units.{low}
use Rattle.checks.specs.Calm.{Each, Follows}
use Rattle.checks.proofs.want.covered.Given as goal

-- each gear so far hands on to the next
abbrev pub invariant-loop-j : goal.invariant-loop-j
invariant-loop-j l = Each (Follows l.car) (low l.car) l.j
