-- A loop ends at the first segment, or at one whose lower end is under x.
use Rattle.rules.proofs.Offered.{arith, inl, inr}
use Rattle.gears.proofs.Near.{ends}
use Rattle.gears.proofs.curve.segment_near.Goals as goal

pub returns-else-x-thousandths : goal.returns-else-x-thousandths
returns-else-x-thousandths c =
    ends c.requires.0 c.loop-s-2.s c.loop-s-2.invariant.0 c.loop-s-2.invariant.1 (inr (omega arith))

pub returns-after-loop-s-2 : goal.returns-after-loop-s-2
returns-after-loop-s-2 c =
    ends c.requires.0 c.loop-s-2.s c.loop-s-2.invariant.0 c.loop-s-2.invariant.1 (inl (omega arith))
