-- What `Default` makes of the records is what the rules say where there is nothing to say.
use Rattle.rules.proofs.Offered.{◌≡◌, false, pos, no_facts, nothing}
use Rattle.std.proofs.Common.{rules, map}
use Rattle.std.specs.List.{range_with_len}
use Rattle.std.specs.Array.{AllOfLen}
use Rattle.std.proofs.lemmas.List.FromFn.{fill_by_all}
use Rattle.rules.specs.declared.GearFacts.{GearFacts}
use Rattle.rules.specs.declared.Reasons.{Reasons}

-- of a gear
abbrev IsNoFacts : GearFacts → Type 0
IsNoFacts x =
    (x.q ≡ pos 0) × ((x.w ≡ pos 0) × ((x.engine ≡ 0) × ((x.minimum ≡ 0) × ((x.rule ≡ 0) × ((x.allowed ≡ false) × ((x.over_minimum ≡ false)
    × ((x.under_nmax ≡ false) × ((x.fits ≡ false) × (x.enough ≡ false)))))))))

pub no_facts_is : (x : GearFacts) → IsNoFacts x → x ≡ no_facts
unfolding no_facts
no_facts_is x h = search rules

-- of a second
abbrev IsNothing : Reasons → Type 0
IsNothing x =
    (x.about ≡ 0) × ((x.first ≡ 0) × ((x.last ≡ 0) × ((x.required ≡ pos 0) × (AllOfLen IsNoFacts x.gears 10 × ((x.kind ≡ 0) × ((x.role ≡ 0)
    × ((x.held ≡ 0) × ((x.choice ≡ 0) × ((x.sentence ≡ 0) × ((x.after_a ≡ 0) × ((x.after_b ≡ 0) × ((x.after_c ≡ 0) × ((x.floor ≡ 0)
    × ((x.ceiling ≡ 0) × ((x.clutch ≡ false) × ((x.clutch_reason ≡ 0) × (x.byte ≡ 0)))))))))))))))))

pub nothing_is : (x : Reasons) → IsNothing x → x ≡ nothing
unfolding nothing
nothing_is x h =
    let A = h.1.1.1.1.0 in
    let e : x.gears ≡ map (λ k. no_facts) (range_with_len 0 10) =
    fill_by_all (λ k. no_facts) x.gears 10 no_facts A.long (λ k l. no_facts_is _ (A.at k no_facts l)) in
    search rules
