-- 7, 8 and 9 of a held second, in the table's order.
use Rattle.rules.proofs.Offered.{arith, said}
use Rattle.checks.specs.Checks.{kept}
use Rattle.checks.proofs.Tests.{held_over, held_standing, held_over_rev, held_good}
use Rattle.checks.proofs.seconds.check_held.Goals as goal

pub returns-then-not_driven : goal.returns-then-not_driven
unfolding said kept
returns-then-not_driven c = λ vs hs lo e f. rw (← held_over c.args.car.now vs hs lo c.args.i e f c.if-not_driven.ensures.rule)

pub returns-then-not-moving : goal.returns-then-not-moving
unfolding said kept
returns-then-not-moving c = λ vs hs lo e f.
    rw (← held_standing c.args.car.now vs hs lo c.args.i e f (omega arith) c.if-not_driven.ensures.rule c.if-not-moving.ensures)

pub returns-then-most-engine : goal.returns-then-most-engine
unfolding said kept
returns-then-most-engine c = λ vs hs lo e f.
    rw (← held_over_rev c.args.car.now vs hs lo c.args.i e f (omega arith) c.if-not_driven.ensures.rule c.if-not-moving.ensures
    (omega (arith, c.requires.1, rw c.from.ensures at c.engine.ensures)))

pub returns : goal.returns
unfolding said kept
returns c = λ vs hs lo e f.
    rw (← held_good c.args.car.now vs hs lo c.args.i e f (omega arith) c.if-not_driven.ensures.rule c.if-not-moving.ensures
    (omega (arith, c.requires.1, rw c.from.ensures at c.engine.ensures)))
