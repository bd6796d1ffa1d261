-- Field by field.
use Rattle.rules.proofs.Offered.{arith, ap, sym, refl, ◌∙◌, ◌≡◌, leb, false, Power, low_from, is_under_nmax, minimum, var, read, le-leb, lt-leb, to_z-of_z}
use Rattle.rules.specs.declared.Role.{Role}
use Rattle.reasons.proofs.Gears.{enough_read, enough_past, facts_are}
use Rattle.gears.proofs.Tests.{ladders}
use Rattle.reasons.proofs.facts.driven_facts.Goals as goal
use Rattle.reasons.proofs.facts.driven_facts.Goals.{then-under, else-under}

pub engine-x-requires : goal.engine-x-requires
engine-x-requires c = let l = low_from c.args.car.now in record { from = omega arith; to = omega arith }

pub returns : goal.returns
unfolding is_under_nmax
returns c = λ d e a.
    let s = c.args in
    let size = c.requires.1 in
    let x = c.engine-x.ensures in
    let by = c.minimum_role-by.ensures in
    let under : leb c.engine-x.result c.top.result ≡ is_under_nmax s.car.now s.v s.g = rw (x, c.top.ensures) in
    facts_are s.car.now s.here s.closes s.v d s.g
    (read (var s.a.q 1000000000000 size.sized.q_in) tt ∙ ap (λ (z : Power). z.Q) a)
    (read (var s.a.w 1000 size.sized.w_in) tt ∙ ap (λ (z : Power). z.w) a)
    x
    (c.minimum-least.ensures.speed ∙ ap (λ (by : Role). minimum s.car.now by s.g) by)
    (c.minimum_rule.ensures ∙ rw (c.lowest.ensures, by))
    c.may_fit-may.ensures
    refl
    (c.turns_enough-turns.ensures s.v x)
    under
    (grind (arith, ladders))
    (elim c.if-under.branch [
      | then-under w ↦ w.suffices-is ∙ w.enough-suffices.ensures
          ∙ rw (to_z-of_z c.ranges.e) (enough_read s.car.now s.v s.g (sym under ∙ le-leb _ _ w.if-under.true) d s.e _ e a)
      | else-under w ↦ let f : leb c.engine-x.result c.top.result ≡ false = lt-leb _ _ w.if-under.false in
          w.suffices-is ∙ f ∙ enough_past s.car.now s.v s.g (sym under ∙ f) d
    ])
