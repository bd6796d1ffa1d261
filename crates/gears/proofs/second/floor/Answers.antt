-- `gears::second::floor`: the first gear that does not turn too fast, or none, is what was asked.
use Rattle.rules.proofs.Offered.{ℕ, ◌*◌, ◌≤◌, ◌<◌, arith, rules, ◌∙◌, low, engine}
use Rattle.std.proofs.Common.{tests}
use Rattle.std.proofs.lemmas.Iterator.{first_from_Range, serves_from_Range}
use Rattle.gears.specs.Second.{Gear}
use Rattle.gears.proofs.Speeds.{floor_found}
use Rattle.gears.proofs.second.floor.Goals as goal

-- a gear that the array has a place for
in_array : (g : ℕ) → 1 ≤ g → g ≤ 10 → Gear g
in_array g a b = record { from = a; to = b }

pub find-requires-clause-callable : goal.find-requires-clause-callable
unfolding low
find-requires-clause-callable c = serves_from_Range (λ x q k. search (rules, tests)) (λ x from to. search (rules, in_array))

pub returns : goal.returns
returns c =
    let car = c.args.car.now in
    c.unwrap_or.ensures
    ∙ floor_found car c.args.v c.find.result c.lowest.ensures (omega arith)
    (first_from_Range _ _ _ _ (λ g. engine car g c.args.v ≤ 1000 * car.nmax) (λ g. 1000 * car.nmax < engine car g c.args.v) c.find.ensures.ran
    (λ x q k. search (rules, tests)) (λ x q k. search (rules, tests)))
