-- A fault is handed up, a float comes judged.
use Rattle.std.proofs.lemmas.Result.{err_from_is_err_and}
use Rattle.exports.specs.Fields.{tm_field}
use Rattle.exports.proofs.RecordAnswers.{mass_stops, mass_comes}
use Rattle.exports.proofs.records.mass_at.Goals as goal

pub returns-in_err-mass-clause-said : goal.returns-in_err-mass-clause-said
unfolding tm_field
returns-in_err-mass-clause-said c =
    let p = err_from_is_err_and c.from_residual.result c.from_residual.ensures.1 in rw (p.1, p.2) (mass_stops _ _ _ c.in_err-mass.ensures.said)

pub returns-clause-said : goal.returns-clause-said
unfolding tm_field
returns-clause-said c = mass_comes _ _ _ c.in_ok-mass.ensures.said

pub returns-clause-good : goal.returns-clause-good
unfolding tm_field
returns-clause-good c = λ found t. (t, c.in_ok-mass.ensures.bounded)
