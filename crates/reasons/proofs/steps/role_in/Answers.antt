-- From where the closing run begins, by the tests of the definition.
use Rattle.rules.proofs.Offered.{role_of, arith}
use Rattle.std.proofs.lemmas.Bool.Decides.{nat_tests}
use Rattle.reasons.proofs.Stages.{here_run}
use Rattle.reasons.proofs.steps.role_in.Goals as goal

pub returns-then-j-eq0 : goal.returns-then-j-eq0
unfolding role_of
returns-then-j-eq0 c = λ us hs l R. rw (here_run c.args.car.now us hs c.args.gs.now _ c.args.j R (omega arith)) (grind (arith, nat_tests))

pub returns-then-run-j : goal.returns-then-run-j
unfolding role_of
returns-then-run-j c = λ us hs l R. rw (here_run c.args.car.now us hs c.args.gs.now _ c.args.j R (omega arith)) (grind (arith, nat_tests))

pub returns-then-from-lowest : goal.returns-then-from-lowest
unfolding role_of
returns-then-from-lowest c = λ us hs l R. rw (here_run c.args.car.now us hs c.args.gs.now _ c.args.j R (omega arith)) (grind (arith, nat_tests))

pub returns-else-from-lowest : goal.returns-else-from-lowest
unfolding role_of
returns-else-from-lowest c = λ us hs l R. rw (here_run c.args.car.now us hs c.args.gs.now _ c.args.j R (omega arith)) (grind (arith, nat_tests))
