-- `checks::want::choices_in` meets its contract: what is lent on is the part's own seconds, with the speed that follows.
use Rattle.rules.proofs.Offered.{ℕ, ◌+◌, ◌<◌, arith, ◌≡◌, refl, sym, ◌∙◌, length, part, length_part}
use Rattle.checks.specs.declared.trace.Trace.{Trace}
use Rattle.checks.specs.Asked.{speeds_in, holds_in}
use Rattle.checks.specs.Want.{PartEnd, OnWay}
use Rattle.checks.proofs.Through.{length_speeds, length-holds}
use Rattle.checks.proofs.Way.{Piece, piece_one, piece_part, piece_paced, piece_choices}
use Rattle.checks.proofs.want.choices_in.Goals as goal

-- as many holds as speeds with what is asked for
same : (t : Trace) → length (holds_in t) ≡ length (speeds_in t)
same t = length-holds t.asked t.holds.now ∙ t.rooms ∙ sym (length_speeds t.asked t.speeds.now)

-- a part of more than one second, as it is written
written : (t : Trace) {a b run i m : ℕ} → OnWay (speeds_in t) a b run i → PartEnd t.asked.second i b (i + m) → (m ≡ 1 → ⊥)
    → Piece (speeds_in t) (holds_in t) (part t.speeds.now i (i + m + 1)) (part t.holds.now i (i + m)) i × (length (part t.holds.now i (i + m)) ≡ m)
written t {a} {b} {run} {i} {m} W T more =
    let inside : i + m < length t.speeds.now = omega (arith, W.trip.inside, T.to, length_speeds t.asked t.speeds.now) in (
      piece_part t.asked t.speeds.now t.holds.now i (i + m) (omega arith) inside t.rooms (λ x y. more (omega (arith, T.apart x y))),
      length_part t.holds.now i (i + m) (omega (arith, t.rooms)) ∙ omega arith,
    )

pub first_choices-requires : goal.first_choices-requires
first_choices-requires c =
    let P = piece_one {ks = holds_in c.args.trace} c.speed_at.ensures c.speed_at-then-gs-eq1.ensures c.hold_at.ensures in
    (piece_paced c.requires.0 P (omega (arith, c.requires.0.until)), record { speeds = refl; gears = c.if-gs-eq1.true })

pub returns-then-gs-eq1 : goal.returns-then-gs-eq1
returns-then-gs-eq1 c = λ last j x y.
    let P = piece_one {ks = holds_in c.args.trace} c.speed_at.ensures c.speed_at-then-gs-eq1.ensures c.hold_at.ensures in
    piece_choices c.requires.0 P (omega (arith, c.requires.0.until)) c.args.powered.car.now (same c.args.trace) last c.args.gs.now c.if-gs-eq1.true
    c.saturating_sub-left.ensures c.first_choices.ensures j (omega arith)

pub first_choices-requires-2 : goal.first_choices-requires-2
first_choices-requires-2 c =
    let P = written c.args.trace c.requires.0 c.requires.1 c.if-gs-eq1.false in
    (piece_paced c.requires.0 P.0 (omega (arith, P.1, c.requires.1.to)), record { speeds = P.0.sizes; gears = sym P.1 })

pub returns : goal.returns
returns c = λ last j x y.
    let P = written c.args.trace c.requires.0 c.requires.1 c.if-gs-eq1.false in
    piece_choices c.requires.0 P.0 (omega (arith, P.1, c.requires.1.to)) c.args.powered.car.now (same c.args.trace) last c.args.gs.now (sym P.1)
    c.saturating_sub-left.ensures c.first_choices-2.ensures j (omega (arith, P.1))
