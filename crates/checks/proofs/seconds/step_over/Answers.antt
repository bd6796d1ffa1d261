-- Neither in the first second, nor below the gap.
use Rattle.rules.proofs.Offered.{arith, ◌∙◌, le-ltb}
use Rattle.checks.specs.Asked.{speeds_in}
use Rattle.checks.proofs.Tests.{step_gap, step_out}
use Rattle.checks.proofs.seconds.step_over.Goals as goal

pub returns-then-lo-i : goal.returns-then-lo-i
returns-then-lo-i c = λ car hs.
    rw (c.abs_diff.ensures, c.speed_at.ensures, c.speed_at-then-lo-i.ensures) (step_gap car (speeds_in c.args.trace) hs _ _ (omega arith))

pub returns-else-lo-i : goal.returns-else-lo-i
returns-else-lo-i c = λ car hs. le-ltb _ _ c.if-lo-i.false ∙ step_out car _ hs _ _ c.if-lo-i.false
