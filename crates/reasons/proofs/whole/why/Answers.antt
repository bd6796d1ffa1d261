-- What the early checks refuse is refused, and nothing is said of it.
use Rattle.rules.proofs.Offered.{◌∙◌}
use Rattle.reasons.specs.declared.View.{View}
use Rattle.reasons.proofs.Nothing.{nothing_is}
use Rattle.reasons.proofs.Passed.{early_ends}
use Rattle.reasons.proofs.whole.why.Goals as goal

pub returns-in-Err : goal.returns-in-Err
returns-in-Err c =
    let e = early_ends c.args.vehicle c.args.speeds.now c.args.holds.now c.args.second View (Unit {0}) _ c.in-Err.ensures.refusal in
    record { answer = e.0; reasons = nothing_is c.default.result c.default.ensures ∙ e.1 }
