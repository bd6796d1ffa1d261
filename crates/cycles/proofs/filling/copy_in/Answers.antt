-- `cycles::filling::copy_in` meets its contract: the invariant is `Copied`.
use Rattle.rules.proofs.Offered.{refl, arith}
use Rattle.cycles.proofs.Copied.{begin, more, done}
use Rattle.cycles.proofs.filling.copy_in.Goals as goal

pub loop-i-init : goal.loop-i-init
loop-i-init c = begin

pub loop-i-preserved : goal.loop-i-preserved
loop-i-preserved c = more c.loop-i.invariant (omega arith) (omega arith) _ refl

pub returns : goal.returns
returns c = done c.loop-i.invariant (omega arith)
