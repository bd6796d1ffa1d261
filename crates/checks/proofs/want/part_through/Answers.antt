-- `checks::want::part_through` meets its contract: the first place without a gear is the first second without one.
use Rattle.rules.proofs.Offered.{ℕ, List, ◌-◌, ◌≡◌, ◌≢◌, rules, length, at}
use Rattle.std.proofs.Common.{Some, None, tests}
use Rattle.std.proofs.lemmas.Iterator.{first_from_Range, serves_from_Range}
use Rattle.checks.specs.Asked.{speeds_in, holds_in}
use Rattle.checks.proofs.Way.{all_geared, one_wants}
use Rattle.checks.proofs.want.part_through.Goals as goal

pub find-requires-clause-callable : goal.find-requires-clause-callable
find-requires-clause-callable c = serves_from_Range (λ x q k. search (rules, tests)) (λ x from to. search rules)

-- a second of the part, whose end is one of the trip's
pub overflow_add-result : goal.overflow_add-result
overflow_add-result c =
    let gs : List ℕ = c.choices_in.new.gs in
    let P = c.requires.1 in
    let few = P.few in
    let n : length gs ≡ c.args.part.hi - c.args.part.lo = search rules in
    let found = first_from_Range _ _ _ (Some c.in-Some.none) (λ i. at gs i ≡ 0) (λ i. at gs i ≢ 0) c.in-Some.ensures.ran
    (λ x q k. search (rules, tests)) (λ x q k. search (rules, tests)) in
    let inside = found.1 in
    search rules

pub returns-in-Some : goal.returns-in-Some
returns-in-Some c = λ last.
    let t = c.args.trace in
    let gs : List ℕ = c.choices_in.new.gs in
    let P = c.requires.1 in
    let few = P.few in
    let n : length gs ≡ c.args.part.hi - c.args.part.lo = search rules in
    let found = first_from_Range _ _ _ (Some c.in-Some.none) (λ i. at gs i ≡ 0) (λ i. at gs i ≢ 0) c.in-Some.ensures.ran
    (λ x q k. search (rules, tests)) (λ x q k. search (rules, tests)) in
    one_wants c.args.powered.car.now (speeds_in t) (holds_in t) gs (c.choices_in.ensures last) (search rules) P.some (search rules) found.1 found.2 found.3

pub returns-in-None : goal.returns-in-None
returns-in-None c = λ last.
    let t = c.args.trace in
    let gs : List ℕ = c.choices_in.new.gs in
    let P = c.requires.1 in
    let few = P.few in
    let n : length gs ≡ c.args.part.hi - c.args.part.lo = search rules in
    let found = first_from_Range _ _ _ None (λ i. at gs i ≡ 0) (λ i. at gs i ≢ 0) c.in-None.ensures.ran
    (λ x q k. search (rules, tests)) (λ x q k. search (rules, tests)) in
    all_geared c.args.powered.car.now (speeds_in t) (holds_in t) gs (c.choices_in.ensures last) (search rules) P.some (search rules) found
