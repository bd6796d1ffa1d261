-- An empty summary, brought up to date; or the refusal of the lengths.
use Rattle.rules.proofs.Offered.{refl, ◌∙◌, said, summary_fault, counted_summary, handed_up}
use Rattle.checks.proofs.Rows.{said_none, left_old}
use Rattle.summaries.proofs.Totals.{default_is, all_countable, whole-settled}
use Rattle.summaries.proofs.whole.summary_of.Goals as goal

pub returns-in_err-check_lengths-clause-answer : goal.returns-in_err-check_lengths-clause-answer
unfolding summary_fault said
returns-in_err-check_lengths-clause-answer c =
    rw (handed_up c.from_residual.ensures.1) (c.in_err-check_lengths.ensures c.args.speeds.now c.args.card.now c.args.card.now refl refl refl)

pub returns-in_err-check_lengths-clause-summary : goal.returns-in_err-check_lengths-clause-summary
unfolding summary_fault counted_summary
returns-in_err-check_lengths-clause-summary c =
    rw (handed_up c.from_residual.ensures.1)
    (left_old _ _ (c.in_err-check_lengths.ensures c.args.speeds.now c.args.card.now c.args.card.now refl refl refl) refl)

pub count-all-requires : goal.count-all-requires
unfolding summary_fault
count-all-requires c =
    all_countable c.args.speeds.now c.args.card.now (said_none (c.in_ok-check_lengths.ensures _ c.args.card.now c.args.card.now refl refl refl) refl)

pub returns-clause-answer : goal.returns-clause-answer
unfolding summary_fault said
returns-clause-answer c = c.in_ok-check_lengths.ensures c.args.speeds.now c.args.card.now c.args.card.now refl refl refl

pub returns-clause-summary : goal.returns-clause-summary
unfolding summary_fault
returns-clause-summary c =
    c.updated.ensures
    ∙ whole-settled c.args.speeds.now c.args.card.now (said_none (c.in_ok-check_lengths.ensures _ c.args.card.now c.args.card.now refl refl refl) refl)
    (default_is _ c.default.ensures) c.none_counted.ensures c.count-all.ensures
