-- A fault is handed up, the three floats come judged.
use Rattle.std.proofs.lemmas.Result.{err_from_is_err_and}
use Rattle.exports.specs.Fields.{f0_field, f1_field, f2_field}
use Rattle.exports.proofs.RecordAnswers.{f0_stops, f1_stops, f2_stops, three_come}
use Rattle.exports.proofs.records.coefficients_at.Goals as goal

pub returns-in_err-f0-clause-said : goal.returns-in_err-f0-clause-said
unfolding f0_field
returns-in_err-f0-clause-said c =
    let p = err_from_is_err_and c.from_residual.result c.from_residual.ensures.1 in rw (p.1, p.2) (f0_stops _ _ _ c.in_err-f0.ensures.said)

pub returns-in_err-f1-clause-said : goal.returns-in_err-f1-clause-said
unfolding f0_field f1_field
returns-in_err-f1-clause-said c =
    let p = err_from_is_err_and c.from_residual-in_err-f1.result c.from_residual-in_err-f1.ensures.1 in
    rw (p.1, p.2) (f1_stops _ _ _ c.in_ok-f0.ensures.said c.in_err-f1.ensures.said)

pub returns-in_err-f2-clause-said : goal.returns-in_err-f2-clause-said
unfolding f0_field f1_field f2_field
returns-in_err-f2-clause-said c =
    let p = err_from_is_err_and c.from_residual-in_err-f2.result c.from_residual-in_err-f2.ensures.1 in
    rw (p.1, p.2) (f2_stops _ _ _ c.in_ok-f0.ensures.said c.in_ok-f1.ensures.said c.in_err-f2.ensures.said)

pub returns-clause-said : goal.returns-clause-said
unfolding f0_field f1_field f2_field
returns-clause-said c = three_come _ _ _ c.in_ok-f0.ensures.said c.in_ok-f1.ensures.said c.in_ok-f2.ensures.said

pub returns-clause-good : goal.returns-clause-good
unfolding f0_field f1_field f2_field
returns-clause-good c = λ found t. (t, record { f0_in = c.in_ok-f0.ensures.bounded; f1_in = c.in_ok-f1.ensures.bounded; f2_in = c.in_ok-f2.ensures.bounded })
