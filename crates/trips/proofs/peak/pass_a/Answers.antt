use Rattle.rules.proofs.Offered.{arith}
use Rattle.trips.proofs.Passes.{pass-more}
use Rattle.trips.proofs.Seconds.{peak_last}
use Rattle.trips.proofs.Along.{along_last, peak-first}
use Rattle.trips.proofs.peak.pass_a.Goals as goal

pub loop-j-init : goal.loop-j-init
loop-j-init c = peak-first _ _ _ _

pub loop-j-preserved : goal.loop-j-preserved
loop-j-preserved c = pass-more _ _ _ _ _ c.loop-j.invariant c.peaked.ensures

pub returns : goal.returns
returns c = along_last _ _ c.loop-j.invariant (omega arith) (omega arith) (peak_last _ _ _ _ _ (omega arith))
