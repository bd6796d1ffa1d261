use Rattle.rules.proofs.Offered.{arith}
use Rattle.trips.proofs.Passes.{pass-more}
use Rattle.trips.proofs.Along.{along_end, rising-first}
use Rattle.trips.proofs.rising.pass_b.Goals as goal

pub loop-j-init : goal.loop-j-init
loop-j-init c = rising-first _ _ _ _

pub loop-j-preserved : goal.loop-j-preserved
loop-j-preserved c = pass-more _ _ _ _ _ c.loop-j.invariant c.risen.ensures

pub returns : goal.returns
returns c = along_end _ _ c.loop-j.invariant (omega arith) (omega arith)
