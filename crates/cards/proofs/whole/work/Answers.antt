-- What each check leaves, and one law of `Working` for each return.
use Rattle.rules.proofs.Offered.{refl, ℕ, length-replicate, arith, handed_up}
use Rattle.checks.proofs.Rows.{opened, said_none, spanned}
use Rattle.gears.proofs.Derating.{derates, powers_lent}
use Rattle.cards.proofs.Working.{work_opening, work-span, work_range, work_passes, work_done, whole_resting}
use Rattle.cards.proofs.whole.work.Goals as goal

pub returns-in_err-check_opening-clause-answer : goal.returns-in_err-check_opening-clause-answer
returns-in_err-check_opening-clause-answer c =
    let a = c.args in
    rw (handed_up c.from_residual.ensures.1)
    (work_opening a.vehicle a.speeds.now a.holds.now a.card.now _ (c.in_err-check_opening.ensures _ _ _ refl refl refl)).0

pub returns-in_err-check_opening-clause-card : goal.returns-in_err-check_opening-clause-card
returns-in_err-check_opening-clause-card c =
    let a = c.args in (work_opening a.vehicle a.speeds.now a.holds.now a.card.now _ (c.in_err-check_opening.ensures _ _ _ refl refl refl)).1

pub derate-requires : goal.derate-requires
derate-requires c =
    let O = opened {car = c.args.vehicle} {vs = c.args.speeds.now} {hs = c.args.holds.now} {old = c.args.card.now}
    (c.in_ok-check_opening.ensures _ _ _ refl refl refl) refl in
    derates _ O.bounds

pub written-requires : goal.written-requires
written-requires c =
    let O = opened {car = c.args.vehicle} {vs = c.args.speeds.now} {hs = c.args.holds.now} {old = c.args.card.now}
    (c.in_ok-check_opening.ensures _ _ _ refl refl refl) refl in
    O.holds_long

pub invariant_of-powered : goal.invariant_of-powered
invariant_of-powered c =
    let O = opened {car = c.args.vehicle} {vs = c.args.speeds.now} {hs = c.args.holds.now} {old = c.args.card.now}
    (c.in_ok-check_opening.ensures _ _ _ refl refl refl) refl in
    record { in_bounds = O.bounds; derated = powers_lent _ O.bounds _ (length-replicate {A = ℕ} 64 0) c.derate.ensures }

pub check_span-requires : goal.check_span-requires
check_span-requires c =
    let O = opened {car = c.args.vehicle} {vs = c.args.speeds.now} {hs = c.args.holds.now} {old = c.args.card.now}
    (c.in_ok-check_opening.ensures _ _ _ refl refl refl) refl in
    (rw c.written.ensures.speeds (spanned O (omega arith) (omega arith)), omega arith, rw c.written.ensures.nothing_asked.0 (whole_resting O))

pub returns-in_err-check_span-clause-answer : goal.returns-in_err-check_span-clause-answer
returns-in_err-check_span-clause-answer c =
    let O = opened {car = c.args.vehicle} {vs = c.args.speeds.now} {hs = c.args.holds.now} {old = c.args.card.now}
    (c.in_ok-check_opening.ensures _ _ _ refl refl refl) refl in
    rw (handed_up c.from_residual-in_err-check_span.ensures.1)
    (work-span O _ (rw (c.written.ensures.nothing_asked.0, c.written.ensures.nothing_asked.1) at c.in_err-check_span.ensures)).0

pub returns-in_err-check_span-clause-card : goal.returns-in_err-check_span-clause-card
returns-in_err-check_span-clause-card c =
    let O = opened {car = c.args.vehicle} {vs = c.args.speeds.now} {hs = c.args.holds.now} {old = c.args.card.now}
    (c.in_ok-check_opening.ensures _ _ _ refl refl refl) refl in
    (work-span O _ (rw (c.written.ensures.nothing_asked.0, c.written.ensures.nothing_asked.1) at c.in_err-check_span.ensures)).1

pub sweep-requires : goal.sweep-requires
sweep-requires c =
    let O = opened {car = c.args.vehicle} {vs = c.args.speeds.now} {hs = c.args.holds.now} {old = c.args.card.now}
    (c.in_ok-check_opening.ensures _ _ _ refl refl refl) refl in
    let n = said_none (rw (c.written.ensures.nothing_asked.0, c.written.ensures.nothing_asked.1) at c.in_ok-check_span.ensures) refl in
    (work_range O n, work_passes O n)

pub returns-clause-answer : goal.returns-clause-answer
returns-clause-answer c =
    let O = opened {car = c.args.vehicle} {vs = c.args.speeds.now} {hs = c.args.holds.now} {old = c.args.card.now}
    (c.in_ok-check_opening.ensures _ _ _ refl refl refl) refl in
    let n = said_none (rw (c.written.ensures.nothing_asked.0, c.written.ensures.nothing_asked.1) at c.in_ok-check_span.ensures) refl in
    (work_done O n c.sweep.ensures).0

pub returns-clause-card : goal.returns-clause-card
returns-clause-card c =
    let O = opened {car = c.args.vehicle} {vs = c.args.speeds.now} {hs = c.args.holds.now} {old = c.args.card.now}
    (c.in_ok-check_opening.ensures _ _ _ refl refl refl) refl in
    let n = said_none (rw (c.written.ensures.nothing_asked.0, c.written.ensures.nothing_asked.1) at c.in_ok-check_span.ensures) refl in
    (work_done O n c.sweep.ensures).1
