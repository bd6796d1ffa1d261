-- Where the early checks pass, 10 says what is said in all.
use Rattle.rules.proofs.Offered.{ℕ, sym, ◌∙◌, length-replicate}
use Rattle.gears.proofs.Derating.{derates, powers_lent}
use Rattle.reasons.proofs.Places.{looked_view, spanned_at, resting, slow_at}
use Rattle.reasons.proofs.Passed.{passed_early, passed_view, even, bounds, written_speeds, early_said, late_said}
use Rattle.reasons.proofs.whole.explained.Goals as goal

pub derate-requires : goal.derate-requires
derate-requires c = derates c.args.car.now (bounds _ _ _ _ c.requires.early)

pub written-requires : goal.written-requires
written-requires c = even _ _ _ _ c.requires.early

pub invariant_of-powered : goal.invariant_of-powered
invariant_of-powered c =
    let b = bounds _ _ _ _ c.requires.early in
    record { in_bounds = b; derated = powers_lent c.args.car.now b _ (length-replicate {A = ℕ} 64 0) c.derate.ensures }

pub check_gears-answer-requires : goal.check_gears-answer-requires
check_gears-answer-requires c =
    let P = passed_early _ _ _ _ c.requires.early in
    let K = looked_view c.requires.viewed P.1 in
    let W = c.written.ensures in
    let l = P.0.holds_long in
    let e = early_said c.written.result W.speeds W.holds W.second c.args.car.now c.args.view c.requires.viewed P.0 P.1 ∙ c.requires.early in
    let w = written_speeds c.written.result W.speeds W.holds W.second l in
    (rw W.speeds (spanned_at P.0 K), rw w (slow_at P.0 K (passed_view c.requires)), rw w (resting K), sym e)

pub reasons_with-reasons-requires : goal.reasons_with-reasons-requires
reasons_with-reasons-requires c =
    let W = c.written.ensures in
    let e = late_said c.written.result W.speeds W.holds W.second c.args.car.now c.args.view c.requires.viewed c.requires.early in
    (c.requires, c.check_gears-answer.ensures ∙ e)

pub returns-clause-answer : goal.returns-clause-answer
returns-clause-answer c =
    let W = c.written.ensures in
    c.check_gears-answer.ensures ∙ late_said c.written.result W.speeds W.holds W.second c.args.car.now c.args.view c.requires.viewed c.requires.early
