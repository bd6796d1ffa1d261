-- At each `return` one law of `group` says what the tests that led there come to.
use Rattle.rules.proofs.Offered.{arith, sym, ends_first, one, ends_second, two, two_bad, ends_third, three, three_bad, early, of₃, of₄, of₅, of₈, handed_up}
use Rattle.reading.proofs.groups.group_at.Goals as goal

pub returns-in_err-a : goal.returns-in_err-a
unfolding early
returns-in_err-a c = rw (handed_up c.from_residual.ensures.1, c.in_err-a.ensures.0) (sym (ends_first _ _ c.in_err-a.ensures.1))

pub returns-then-a-lt128 : goal.returns-then-a-lt128
returns-then-a-lt128 c = rw c.in_ok-a.ensures.is (sym (one _ _ c.in_ok-a.ensures.there (omega (arith, c.in_ok-a.ensures.is))))

pub returns-in_err-b : goal.returns-in_err-b
unfolding early
returns-in_err-b c = rw (handed_up c.from_residual-in_err-b.ensures.1, c.in_err-b.ensures.0)
    (sym (of₃ (ends_second _ _) (omega (arith, c.in_ok-a.ensures, c.in_err-b.ensures.1))))

pub returns-then-b-eq0 : goal.returns-then-b-eq0
returns-then-b-eq0 c = sym (of₄ (two_bad _ _) (omega (arith, c.in_ok-a.ensures, c.in_ok-b.ensures)))

pub returns-then-b-lt128 : goal.returns-then-b-lt128
returns-then-b-lt128 c = rw (c.in_ok-a.ensures.is, c.in_ok-b.ensures.is) (sym (of₅ (two _ _) (omega (arith, c.in_ok-a.ensures, c.in_ok-b.ensures))))

pub returns-in_err-c : goal.returns-in_err-c
unfolding early
returns-in_err-c c = rw (handed_up c.from_residual-in_err-c.ensures.1, c.in_err-c.ensures.0)
    (sym (of₅ (ends_third _ _) (omega (arith, c.in_ok-a.ensures, c.in_ok-b.ensures, c.in_err-c.ensures.1))))

pub returns-then-c-eq0 : goal.returns-then-c-eq0
returns-then-c-eq0 c = sym (of₅ (three_bad _ _) (omega (arith, c.in_ok-a.ensures, c.in_ok-b.ensures, c.in_ok-c.ensures))
    (λ p q r. omega (arith, c.then-c-eq0.either, c.in_ok-a.ensures, c.in_ok-b.ensures, c.in_ok-c.ensures)))

pub returns : goal.returns
returns c = rw (c.in_ok-a.ensures.is, c.in_ok-b.ensures.is, c.in_ok-c.ensures.is)
    (sym (of₈ (three _ _) (omega (arith, c.in_ok-a.ensures, c.in_ok-b.ensures, c.in_ok-c.ensures))))
