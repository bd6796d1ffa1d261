use Rattle.rules.proofs.Offered.{sym, ◌∙◌, arith, le-leb}
use Rattle.trips.proofs.Passes.{pass-more}
use Rattle.trips.proofs.Seconds.{slowing_is}
use Rattle.trips.proofs.Along.{along_end, slowing-first}
use Rattle.trips.proofs.slowing.pass_c.Goals as goal

pub loop-j-init : goal.loop-j-init
loop-j-init c = λ us n R. slowing-first _ us _ _ R c.max-j.ensures

pub loop-j-preserved : goal.loop-j-preserved
loop-j-preserved c = λ us n R.
    let closes = R.run c.loop-j.j (omega (arith, c.requires.1.gears)) ∙ le-leb c.args.run c.loop-j.j (omega arith) in
    pass-more _ _ _ _ _ (c.loop-j.invariant us n R) (c.slowed.ensures ∙ sym (slowing_is _ us _ _ _ (omega arith) (omega arith) closes))

pub returns : goal.returns
returns c = λ us n R. along_end _ _ (c.loop-j.invariant us n R) (omega arith) (omega arith)
