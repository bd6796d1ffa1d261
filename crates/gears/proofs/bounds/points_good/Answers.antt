use Rattle.rules.proofs.Offered.{sym, ◌∙◌, refl, rules, point_good}
use Rattle.std.proofs.Common.{arith, tests}
use Rattle.std.proofs.lemmas.Iterator.{YieldsList-from_range}
use Rattle.std.proofs.lemmas.Iterator.Search.{all_from_yields_List}
use Rattle.gears.proofs.Tests.{every_is}
use Rattle.gears.proofs.bounds.points_good.Goals as goal

pub returns : goal.returns
returns c =
    let all = point_good c.args.version c.args.car.now in
    all_from_yields_List all _ _ _ c.all.ensures.ran (YieldsList-from_range 0 _ _ refl (omega arith)) (λ x b q k. search (rules, tests))
    ∙ sym (every_is all 0 c.args.car.now.points)
