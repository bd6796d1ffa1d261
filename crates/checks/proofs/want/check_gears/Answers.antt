-- `checks::want::check_gears` meets its contract: where no speed lies between two gears no second wants one, and the dry run judges the rest.
use Rattle.rules.proofs.Offered.{◌≡◌, sym, ◌∙◌, arith, length, said}
use Rattle.checks.specs.Asked.{speeds_in, holds_in}
use Rattle.checks.proofs.Through.{length_speeds, length-holds}
use Rattle.checks.proofs.Wanting.{no_want}
use Rattle.checks.proofs.Dry.{rests, level}
use Rattle.checks.proofs.want.check_gears.Goals as goal

pub returns-then-no_gap : goal.returns-then-no_gap
unfolding said
returns-then-no_gap c =
    let t = c.args.trace in
    let vs = speeds_in t in
    let hs = holds_in t in
    let n : length vs ≡ length t.speeds.now = length_speeds t.asked t.speeds.now in
    let car = c.args.powered.car.now in
    let span = c.args.span in
    let good = c.requires.3 in
    no_want car vs hs span.lo span.hi (length-holds t.asked t.holds.now ∙ t.rooms ∙ sym n)
    (rests car vs hs span.lo span.hi (sym good) c.requires.2 (omega (arith, c.requires.0.inside, n)))
    c.requires.1 (c.no_gap.ensures c.if-no_gap.true) good

pub judge_gears-requires : goal.judge_gears-requires
judge_gears-requires c =
    let t = c.args.trace in
    let n : length (speeds_in t) ≡ length t.speeds.now = length_speeds t.asked t.speeds.now in
    level c.args.powered.car.now (speeds_in t) (holds_in t) c.args.span.lo c.args.span.hi (sym c.requires.3) c.requires.2
    (omega (arith, c.requires.0.inside, n))
