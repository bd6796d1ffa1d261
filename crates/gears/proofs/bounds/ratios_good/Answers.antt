use Rattle.rules.proofs.Offered.{sym, ◌∙◌, refl, rules, ratio_good}
use Rattle.std.proofs.Common.{tests, arith}
use Rattle.std.proofs.lemmas.Iterator.{YieldsList-from_range}
use Rattle.std.proofs.lemmas.Iterator.Search.{all_from_yields_List}
use Rattle.gears.proofs.Tests.{every_is}
use Rattle.gears.proofs.bounds.ratios_good.Goals as goal

pub returns : goal.returns
returns c =
    let all = ratio_good c.args.car.now in
    all_from_yields_List all _ _ _ c.all.ensures.ran (YieldsList-from_range 1 _ _ refl (omega arith)) (λ x b q k. search (rules, tests))
    ∙ sym (every_is all 1 c.args.car.now.ng)
