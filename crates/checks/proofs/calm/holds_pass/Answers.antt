-- Where no second has a hold there is nothing to pass.
use Rattle.rules.proofs.Offered.{arith, ◌≡◌, at}
use Rattle.checks.proofs.Calmness.{at_most}
use Rattle.checks.proofs.calm.holds_pass.Goals as goal

pub returns-then-most_held-eq0 : goal.returns-then-most_held-eq0
returns-then-most_held-eq0 c = λ e i x y held.
    let z = at_most (at c.args.trace.holds.now) c.args.span.lo c.args.span.hi c.most_held.ensures i x y in
    let n : at c.args.trace.holds.now i ≡ 0 = omega arith in
    absurd (held n)
