-- The trip is worked in its own part of the card, then the second before it.
use Rattle.rules.proofs.Offered.{ℕ, ◌+◌, ◌-◌, ◌%◌, arith, ◌≡◌, ap, ◌∙◌, List, ◌++◌, set, take, drop, post_of, Post-is, at}
use Rattle.cards.proofs.Reworking.{ready, geared, worked}
use Rattle.cards.proofs.rework.rework.Goals as goal

pub work_trip-requires : goal.work_trip-requires
work_trip-requires c =
    (ready c.requires.0 c.requires.1, geared c.requires.0 c.args.powered.car.now c.args.powered.in_bounds c.requires.1)

pub returns : goal.returns
returns c =
    let a = c.args.trip.lo in
    let b = c.args.trip.hi in
    let B = c.requires.0 in
    let old : List ℕ = c.args.card.now in
    let z : List ℕ = c.work_trip.new.gs in
    let m : take a old ++ (z ++ post_of a (b - a) old) ≡ take a old ++ (z ++ drop b old) =
    ap (λ (r : List ℕ). take a old ++ (z ++ r)) (Post-is a b old (omega (arith, B.trip.some_second))) in
    ap (λ (r : List ℕ). set r (a - 1) (16 + at r a % 16)) m
    ∙ worked B c.args.powered.car.now c.args.powered.in_bounds c.requires.1 z c.work_trip.ensures
