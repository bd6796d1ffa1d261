-- Gear by gear.
use Rattle.rules.proofs.Offered.{gear_list, gear_facts, no_facts, ◌+◌, ◌∙◌, arith, to_z-of_z}
use Rattle.std.proofs.lemmas.List.FromFn.{fill_by_all}
use Rattle.reasons.proofs.facts.gear_list.Goals as goal

pub returns : goal.returns
unfolding gear_list
returns c = λ d e.
    let a = c.args in
    let i = c.loop-i.invariant in
    fill_by_all (λ k. gear_facts a.powered.car.now a.here a.closes a.v d (k + 1)) c.loop-i.facts-items 10 no_facts i.long
    (λ k l. i.said d (to_z-of_z c.ranges.e ∙ e) k (omega arith))
