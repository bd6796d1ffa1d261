-- What each check leaves, and one law of `Answers` for each return.
use Rattle.rules.proofs.Offered.{arith, refl, ap, ◌∙◌, ℕ, ◌+◌, ◌<◌, min, length, rules, said, second, handed_up}
use Rattle.gears.proofs.Derating.{derates, powers_lent}
use Rattle.checks.proofs.Rows.{opened, said_none}
use Rattle.edits.proofs.Places.{spanned_at, since_at, resting_at, countable_at}
use Rattle.edits.proofs.Answers.{asked_second, asked_speeds_are, own_at, at_opening, at_second, at-span}
use Rattle.edits.proofs.Carried.{passes_at}
use Rattle.edits.proofs.judging.judge.Goals as goal

pub returns-in_err-check_opening-clause-answer : goal.returns-in_err-check_opening-clause-answer
returns-in_err-check_opening-clause-answer c =
    λ n. rw (handed_up c.from_residual.ensures.1)
    (at_opening c.args.car.now c.args.edit c.args.speeds.now c.args.holds.now c.args.card.now n _ (c.in_err-check_opening.ensures _ _ _ refl refl refl))

pub returns-then-seconds-second-clause-answer : goal.returns-then-seconds-second-clause-answer
returns-then-seconds-second-clause-answer c =
    let O =
    opened {car = c.args.car.now} {vs = c.args.speeds.now} {hs = c.args.holds.now} {old = c.args.card.now} {A = Unit {0}} {v = tt}
    (c.in_ok-check_opening.ensures _ _ _ refl refl refl) refl in
    λ n. at_second c.args.car.now c.args.edit c.args.speeds.now c.args.holds.now c.args.card.now n c.second_of-second.ensures O (omega arith)

pub derate-requires : goal.derate-requires
derate-requires c =
    let O =
    opened {car = c.args.car.now} {vs = c.args.speeds.now} {hs = c.args.holds.now} {old = c.args.card.now} {A = Unit {0}} {v = tt}
    (c.in_ok-check_opening.ensures _ _ _ refl refl refl) refl in
    derates _ O.bounds

pub asked_of-requires : goal.asked_of-requires
asked_of-requires c =
    let O =
    opened {car = c.args.car.now} {vs = c.args.speeds.now} {hs = c.args.holds.now} {old = c.args.card.now} {A = Unit {0}} {v = tt}
    (c.in_ok-check_opening.ensures _ _ _ refl refl refl) refl in
    let e = c.second_of-second.ensures in
    let l : second c.args.edit < length c.args.speeds.now = omega arith in
    (l, omega (arith, l, O.holds_long))

pub invariant_of-check_span : goal.invariant_of-check_span
invariant_of-check_span c =
    let O =
    opened {car = c.args.car.now} {vs = c.args.speeds.now} {hs = c.args.holds.now} {old = c.args.card.now} {A = Unit {0}} {v = tt}
    (c.in_ok-check_opening.ensures _ _ _ refl refl refl) refl in
    record { in_bounds = O.bounds; derated = powers_lent _ O.bounds _ (search rules) c.derate.ensures }

pub invariant_of-trace : goal.invariant_of-trace
invariant_of-trace c =
    let O =
    opened {car = c.args.car.now} {vs = c.args.speeds.now} {hs = c.args.holds.now} {old = c.args.card.now} {A = Unit {0}} {v = tt}
    (c.in_ok-check_opening.ensures _ _ _ refl refl refl) refl in
    record { rooms = O.holds_long }

pub check_span-requires : goal.check_span-requires
check_span-requires c =
    let O =
    opened {car = c.args.car.now} {vs = c.args.speeds.now} {hs = c.args.holds.now} {old = c.args.card.now} {A = Unit {0}} {v = tt}
    (c.in_ok-check_opening.ensures _ _ _ refl refl refl) refl in
    let e = c.second_of-second.ensures in
    let l : second c.args.edit < length c.args.speeds.now = omega arith in
    let from = c.widened.ensures.from ∙ c.span_of-range.ensures.from in
    let to = c.widened.ensures.to ∙ ap (λ (b : ℕ). min (b + 1) (length c.args.speeds.now)) c.span_of-range.ensures.to in (
      spanned_at O c.args.edit l from to,
      rw (c.asked_of.ensures, asked_second c.args.edit c.args.speeds.now c.args.holds.now) (since_at O c.args.edit l from to),
      resting_at O c.args.edit l from to (rw c.asked_of.ensures (asked_speeds_are c.args.edit c.args.speeds.now c.args.holds.now)),
    )

pub returns-in_err-check_span-clause-answer : goal.returns-in_err-check_span-clause-answer
unfolding said
returns-in_err-check_span-clause-answer c =
    let O =
    opened {car = c.args.car.now} {vs = c.args.speeds.now} {hs = c.args.holds.now} {old = c.args.card.now} {A = Unit {0}} {v = tt}
    (c.in_ok-check_opening.ensures _ _ _ refl refl refl) refl in
    let e = c.second_of-second.ensures in
    let l : second c.args.edit < length c.args.speeds.now = omega arith in
    let from = c.widened.ensures.from ∙ c.span_of-range.ensures.from in
    let to = c.widened.ensures.to ∙ ap (λ (b : ℕ). min (b + 1) (length c.args.speeds.now)) c.span_of-range.ensures.to in
    λ n. rw (handed_up c.from_residual-in_err-check_span.ensures.1)
    (c.in_err-check_span.ensures ∙ rw c.asked_of.ensures
    (own_at c.args.car.now c.args.edit c.args.speeds.now c.args.holds.now l O.holds_long O.bounds.ng_to from to)
    ∙ at-span c.args.car.now c.args.edit c.args.speeds.now c.args.holds.now c.args.card.now n O l)

pub count-requires : goal.count-requires
count-requires c =
    let O =
    opened {car = c.args.car.now} {vs = c.args.speeds.now} {hs = c.args.holds.now} {old = c.args.card.now} {A = Unit {0}} {v = tt}
    (c.in_ok-check_opening.ensures _ _ _ refl refl refl) refl in
    let e = c.second_of-second.ensures in
    let l : second c.args.edit < length c.args.speeds.now = omega arith in
    countable_at O c.args.edit l c.span_of-range.ensures.from c.span_of-range.ensures.to

pub returns-clause-answer : goal.returns-clause-answer
unfolding said
returns-clause-answer c =
    let O =
    opened {car = c.args.car.now} {vs = c.args.speeds.now} {hs = c.args.holds.now} {old = c.args.card.now} {A = Unit {0}} {v = tt}
    (c.in_ok-check_opening.ensures _ _ _ refl refl refl) refl in
    let e = c.second_of-second.ensures in
    let l : second c.args.edit < length c.args.speeds.now = omega arith in
    let from = c.widened.ensures.from ∙ c.span_of-range.ensures.from in
    let to = c.widened.ensures.to ∙ ap (λ (b : ℕ). min (b + 1) (length c.args.speeds.now)) c.span_of-range.ensures.to in
    λ n. c.in_ok-check_span.ensures ∙ rw c.asked_of.ensures
    (own_at c.args.car.now c.args.edit c.args.speeds.now c.args.holds.now l O.holds_long O.bounds.ng_to from to)
    ∙ at-span c.args.car.now c.args.edit c.args.speeds.now c.args.holds.now c.args.card.now n O l

pub returns-clause-ready : goal.returns-clause-ready
returns-clause-ready c =
    let O =
    opened {car = c.args.car.now} {vs = c.args.speeds.now} {hs = c.args.holds.now} {old = c.args.card.now} {A = Unit {0}} {v = tt}
    (c.in_ok-check_opening.ensures _ _ _ refl refl refl) refl in
    let e = c.second_of-second.ensures in
    let l : second c.args.edit < length c.args.speeds.now = omega arith in
    let from = c.widened.ensures.from ∙ c.span_of-range.ensures.from in
    let to = c.widened.ensures.to ∙ ap (λ (b : ℕ). min (b + 1) (length c.args.speeds.now)) c.span_of-range.ensures.to in
    let r = c.span_of-range.ensures in
    record {
      from = r.from;
      to = r.to;
      bounds = O.bounds;
      derated = powers_lent _ O.bounds _ (search rules) c.derate.ensures;
      passes = passes_at c.args.car.now c.args.edit c.args.speeds.now c.args.holds.now l (said_none (c.in_ok-check_span.ensures ∙ rw c.asked_of.ensures
          (own_at c.args.car.now c.args.edit c.args.speeds.now c.args.holds.now l O.holds_long O.bounds.ng_to from to)) refl);
      counted_are = c.count.ensures ∙ rw (r.from, r.to);
    }
