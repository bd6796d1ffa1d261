-- One law for each end.
use Rattle.std.proofs.lemmas.Result.{err_from_is_err_and}
use Rattle.rules.proofs.Offered.{sym}
use Rattle.exports.proofs.RecordAnswers.{judged_stops, judged_out, judged_good}
use Rattle.exports.proofs.records.judged_at.Goals as goal

pub returns-in_err-x-clause-said : goal.returns-in_err-x-clause-said
returns-in_err-x-clause-said c =
    let p = err_from_is_err_and c.from_residual.result c.from_residual.ensures.1 in rw (p.1, p.2) (judged_stops _ _ _ _ c.in_err-x.ensures.said)

pub returns-then-not-in_bounds-clause-said : goal.returns-then-not-in_bounds-clause-said
returns-then-not-in_bounds-clause-said c = judged_out _ _ _ _ c.in_ok-x.ensures.said (sym c.if-not-in_bounds.ensures)

pub returns-clause-said : goal.returns-clause-said
returns-clause-said c = judged_good _ _ _ _ c.in_ok-x.ensures.said (sym c.if-not-in_bounds.ensures)
