-- 4, 5 and 6 go before those that look at a hold.
use Rattle.rules.proofs.Offered.{arith, refl, sym, ap, ◌∙◌, said}
use Rattle.checks.specs.Asked.{speeds_in}
use Rattle.checks.specs.Checks.{kept}
use Rattle.checks.proofs.Tests.{too_fast, stepped, ended, onward, free_good}
use Rattle.checks.proofs.seconds.check_second.Goals as goal

pub returns-then-v-gt-FASTEST : goal.returns-then-v-gt-FASTEST
unfolding said kept
returns-then-v-gt-FASTEST c = λ hs e. rw (← too_fast c.args.car.now (speeds_in c.args.trace) hs c.args.lo c.args.i (omega arith))

pub returns-then-step_over : goal.returns-then-step_over
unfolding said kept
returns-then-step_over c = λ hs e.
    rw (← stepped c.args.car.now (speeds_in c.args.trace) hs c.args.lo c.args.i (omega arith) (sym (c.if-step_over.ensures c.args.car.now hs)))

pub returns-then-end_moving : goal.returns-then-end_moving
unfolding said kept
returns-then-end_moving c = λ hs e.
    rw (← ended c.args.car.now (speeds_in c.args.trace) hs c.args.lo c.args.i (omega arith) (sym (c.if-step_over.ensures c.args.car.now hs))
    (sym (c.if-end_moving.ensures c.args.car.now hs c.args.lo)))

pub returns-then-held-eq0 : goal.returns-then-held-eq0
unfolding said kept
returns-then-held-eq0 c = λ hs e.
    rw (← onward c.args.car.now (speeds_in c.args.trace) hs c.args.lo c.args.i (omega arith) (sym (c.if-step_over.ensures c.args.car.now hs))
    (sym (c.if-end_moving.ensures c.args.car.now hs c.args.lo)) (free_good _ _ hs _ _ (omega arith)))

pub returns : goal.returns
returns c = λ hs e.
    c.check_held.ensures (speeds_in c.args.trace) hs c.args.lo (sym c.speed_at-v.ensures) e
    ∙ ap (λ n. kept n c.args.i) (onward c.args.car.now (speeds_in c.args.trace) hs c.args.lo c.args.i (omega arith)
    (sym (c.if-step_over.ensures c.args.car.now hs)) (sym (c.if-end_moving.ensures c.args.car.now hs c.args.lo)) refl)
