-- One law for each arm.
use Rattle.rules.proofs.Offered.{arith}
use Rattle.exports.proofs.RecordAnswers.{no_kind, kind_0, kind_1_twice, kind_1, kind_2_twice, kind_2, kind_unknown}
use Rattle.exports.proofs.records.record_at.Goals as goal

pub returns-then-end-spot-clause-said : goal.returns-then-end-spot-clause-said
returns-then-end-spot-clause-said c = no_kind _ _ _ (omega arith)

pub returns-in-0-clause-said : goal.returns-in-0-clause-said
returns-in-0-clause-said c = kind_0 _ _ _ (omega arith) c.in-0.is (c.end_at.ensures.said _)

pub returns-in-1-clause-said : goal.returns-in-1-clause-said
returns-in-1-clause-said c = kind_1 _ _ _ (omega arith) c.in-1.is c.if-is_none.ensures c.coefficients_at.ensures.said

pub returns-in-2-clause-said : goal.returns-in-2-clause-said
returns-in-2-clause-said c = kind_2 _ _ _ (omega arith) c.in-2.is c.if-is_none-2.ensures c.mass_at.ensures.said

pub returns-in_default-clause-said : goal.returns-in_default-clause-said
returns-in_default-clause-said c = kind_1_twice _ _ _ (omega arith) c.in-1.is c.if-is_none.ensures

pub returns-in_default-2-clause-said : goal.returns-in_default-2-clause-said
returns-in_default-2-clause-said c = kind_2_twice _ _ _ (omega arith) c.in-2.is c.if-is_none-2.ensures

pub returns-in_default-3-clause-said : goal.returns-in_default-3-clause-said
returns-in_default-3-clause-said c =
    kind_unknown _ _ _ (omega arith) (λ e. absurd (omega arith)) (λ e. absurd (omega arith)) (λ e. absurd (omega arith))
