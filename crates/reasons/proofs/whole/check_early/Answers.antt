-- The opening, the second's place in the trace, then 4 to 9 of what is looked at.
use Rattle.rules.proofs.Offered.{refl, sym, ◌∙◌, arith, early_fault, handed_up}
use Rattle.checks.proofs.Rows.{opened, said_none}
use Rattle.reasons.specs.declared.View.{View}
use Rattle.reasons.proofs.Places.{looked_view, spanned_at}
use Rattle.reasons.proofs.Passed.{row_opening, row_outside, early_said, same_err, ok_none}
use Rattle.reasons.proofs.whole.check_early.Goals as goal

pub returns-in_err-check_opening-clause-refusal : goal.returns-in_err-check_opening-clause-refusal
unfolding early_fault
returns-in_err-check_opening-clause-refusal c =
    row_opening c.args.car.now c.args.speeds.now c.args.holds.now c.args.second _ (c.in_err-check_opening.ensures _ _ c.args.holds.now refl refl refl) refl
    (handed_up c.from_residual.ensures.1)

pub returns-then-speeds-second-clause-refusal : goal.returns-then-speeds-second-clause-refusal
unfolding early_fault
returns-then-speeds-second-clause-refusal c =
    row_outside c.args.car.now c.args.speeds.now c.args.holds.now c.args.second _ View
    (opened (c.in_ok-check_opening.ensures _ _ c.args.holds.now refl refl refl) refl) (omega arith)

pub written-requires : goal.written-requires
written-requires c =
    let O = opened {vs = c.args.speeds.now} {hs = c.args.holds.now} (c.in_ok-check_opening.ensures _ _ c.args.holds.now refl refl refl) refl in O.holds_long

pub check_seconds-requires : goal.check_seconds-requires
check_seconds-requires c =
    let O = opened (c.in_ok-check_opening.ensures _ _ c.args.holds.now refl refl refl) refl in
    let V = c.view_of-view.ensures in
    let K = looked_view V.view (omega arith) in
    (rw c.written.ensures.speeds (spanned_at O K), omega (arith, c.written.ensures.second, K.some, K.inside))

pub returns-in_err-check_seconds-clause-refusal : goal.returns-in_err-check_seconds-clause-refusal
returns-in_err-check_seconds-clause-refusal c =
    let O = opened (c.in_ok-check_opening.ensures _ _ c.args.holds.now refl refl refl) refl in
    let V = c.view_of-view.ensures in
    let W = c.written.ensures in
    let e = early_said c.written.result W.speeds W.holds W.second c.args.car.now c.view_of-view.result V.view O (omega arith) in
    rw (handed_up c.from_residual-in_err-check_seconds.ensures.1, ← V.second) (same_err _ (Unit {0}) _ ∙ c.in_err-check_seconds.ensures ∙ e)

pub returns : goal.returns
returns c =
    let O = opened (c.in_ok-check_opening.ensures _ _ c.args.holds.now refl refl refl) refl in
    let V = c.view_of-view.ensures in
    let W = c.written.ensures in
    let e = early_said c.written.result W.speeds W.holds W.second c.args.car.now c.view_of-view.result V.view O (omega arith) in
    let n = said_none (c.in_ok-check_seconds.ensures ∙ e) refl in
    record { refusal = ok_none _ ∙ sym (rw V.second at n); second = V.second; view = record { viewed = V.view; early = n } }
