-- One law of `Checked` for each `return`.
use Rattle.rules.proofs.Offered.{refl, arith, handed_up}
use Rattle.checks.proofs.Rows.{said_none, spanned}
use Rattle.writing.proofs.Checked.{job-told, told_opened, job-seconds}
use Rattle.writing.proofs.writer.check_job.Goals as goal

pub returns-in_err-check_told : goal.returns-in_err-check_told
returns-in_err-check_told c =
    rw (handed_up c.from_residual.ensures.1) (job-told c.args.version c.args.car.now _ _ _ (c.in_err-check_told.ensures _ _ refl refl))

pub written-requires : goal.written-requires
written-requires c = (told_opened c.args.version c.args.car.now _ _ (said_none (c.in_ok-check_told.ensures _ _ refl refl) refl)).holds_long

pub check_seconds-requires : goal.check_seconds-requires
check_seconds-requires c =
    let O = told_opened c.args.version c.args.car.now _ c.args.holds.now (said_none (c.in_ok-check_told.ensures _ _ refl refl) refl) in
    (rw c.written.ensures.speeds (spanned O (omega arith) (omega arith)), omega arith)

pub returns : goal.returns
returns c =
    job-seconds c.args.version _ _ _ (said_none (c.in_ok-check_told.ensures _ _ refl refl) refl)
    (rw (c.written.ensures.nothing_asked.0, c.written.ensures.nothing_asked.1) at c.check_seconds.ensures)
