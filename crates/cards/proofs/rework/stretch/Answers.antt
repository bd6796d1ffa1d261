-- A standing second alone, or with the trip that follows.
use Rattle.rules.proofs.Offered.{◌+◌, ◌≡◌, sym, ◌∙◌, stop}
use Rattle.cards.proofs.Reworking.{rests, follows, follows_fit}
use Rattle.cards.proofs.rework.stretch.Goals as goal

pub returns-then-hi-lo-clause-worked : goal.returns-then-hi-lo-clause-worked
returns-then-hi-lo-clause-worked c = rests c.requires.0 c.args.powered.car.now (sym c.trip_stop-hi.ensures ∙ c.if-hi-lo.true)

pub rework-requires : goal.rework-requires
rework-requires c =
    let A = c.requires.0 in
    let some : stop c.args.speeds.now (c.args.i + 1) ≡ c.args.i + 1 → ⊥ = λ e. c.if-hi-lo.false (c.trip_stop-hi.ensures ∙ e) in
    rw c.trip_stop-hi.ensures (follows A some c.args.powered.car.now c.requires.1, follows_fit A some c.args.powered.car.now c.requires.1)
