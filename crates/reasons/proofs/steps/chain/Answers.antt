-- What each stage leaves is what the next one finds.
use Rattle.rules.proofs.Offered.{refl, sym, ap, ◌∙◌, suc, length, arith, length-firsts}
use Rattle.trips.proofs.Trip.{way_firsts}
use Rattle.reasons.proofs.Stages.{chain_is, B_low}
use Rattle.reasons.proofs.steps.chain.Goals as goal

pub ceiling_in-ceiling-requires : goal.ceiling_in-ceiling-requires
ceiling_in-ceiling-requires c =
    let s = c.args in
    let R = c.requires.0 in
    let f = way_firsts s.powered.car.now s.us.now s.hs.now _ c.closing_from-run.ensures R.lists.speeds s.gs.now R.lists.gears c.first_choices.ensures in
    B_low s.powered.car.now s.us.now s.hs.now s.j f c.pass_a.ensures c.pass_b.ensures refl s.powered.in_bounds R c.requires.1

pub returns : goal.returns
returns c =
    let s = c.args in
    let car = s.powered.car.now in
    let us = s.us.now in
    let hs = s.hs.now in
    let R = c.requires.0 in
    let run = c.closing_from-run.ensures in
    let f = way_firsts car us hs _ run R.lists.speeds s.gs.now R.lists.gears c.first_choices.ensures in
    chain_is car us hs s.j f c.pass_a.ensures c.pass_b.ensures (c.pass_c.ensures us R.lists.speeds run)
    (c.role_in-role.ensures us hs (R.lists.speeds ∙ ap suc (sym (ap length f ∙ length-firsts car us hs))) run)
    (sym (run.run s.j (omega (arith, R.lists.speeds, c.requires.1))))
    refl refl refl refl
    (c.ceiling_in-ceiling.ensures car)
