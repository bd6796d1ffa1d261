-- The highest speed and the largest step, of none and of one more.
use Rattle.rules.proofs.Offered.{◌+◌, arith, at}
use Rattle.checks.specs.Calm.{gap_at}
use Rattle.checks.proofs.Calmness.{most_none, most_more}
use Rattle.checks.proofs.calm.look.Goals as goal

pub returns-then-span : goal.returns-then-span
returns-then-span c =
    let vs = c.args.speeds.now in
    let lo = c.args.span.lo in
    record { speeds = most_none (at vs) lo c.args.span.hi (omega arith); steps = most_none (gap_at vs) (lo + 1) c.args.span.hi (omega arith) }

pub loop-i-init : goal.loop-i-init
loop-i-init c =
    let f = at c.args.speeds.now in
    let lo = c.args.span.lo in
    record {
      speeds = most_more f lo lo (omega arith) (most_none f lo lo (omega arith)) (omega arith);
      steps = most_none (gap_at c.args.speeds.now) (lo + 1) (lo + 1) (omega arith);
    }

pub loop-i-preserved : goal.loop-i-preserved
loop-i-preserved c =
    let vs = c.args.speeds.now in
    let lo = c.args.span.lo in
    record {
      speeds = most_more (at vs) lo c.loop-i.i (omega arith) c.loop-i.invariant.speeds c.max-fastest.ensures;
      steps = most_more (gap_at vs) (lo + 1) c.loop-i.i (omega arith) c.loop-i.invariant.steps (rw c.abs_diff.ensures at c.max-steepest.ensures);
    }
