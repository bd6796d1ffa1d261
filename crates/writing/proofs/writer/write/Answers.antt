-- One law of `Ends` for each `return`, by what the checks leave.
use Rattle.rules.proofs.Offered.{refl, arith, longest, writable, handed_up}
use Rattle.checks.proofs.Rows.{said_none}
use Rattle.writing.proofs.Bytes.{job-length, version-length}
use Rattle.writing.proofs.Checked.{light}
use Rattle.writing.proofs.Ends.{checks_refuse, room_refuses, written_as}
use Rattle.writing.proofs.writer.write.Goals as goal

pub returns-in_err-check_job : goal.returns-in_err-check_job
returns-in_err-check_job c = rw (handed_up c.from_residual.ensures.1) (checks_refuse c.args.version _ _ _ _ c.in_err-check_job.ensures)

pub hold_sizes-held-requires : goal.hold_sizes-held-requires
hold_sizes-held-requires c = let a = c.args in light a.version a.vehicle a.speeds.now _ (said_none c.in_ok-check_job.ensures refl)

pub job_size-need-requires : goal.job_size-need-requires
unfolding longest
job_size-need-requires c =
    let a = c.args in
    let w = writable a.version a.vehicle a.speeds.now a.holds.now (said_none c.in_ok-check_job.ensures refl) in
    (w.bounds, omega (arith, w.not_long), omega arith)

pub returns-then-room-need : goal.returns-then-room-need
returns-then-room-need c =
    let a = c.args in
    let none = said_none c.in_ok-check_job.ensures refl in
    let e = job-length a.version a.vehicle a.speeds.now a.holds.now c.hold_sizes-held.ensures.count in
    room_refuses _ _ _ _ _ none (omega (arith, e, version-length a.version a.vehicle a.speeds.now a.holds.now none)) c.if-room-need.true

pub put_job-requires : goal.put_job-requires
put_job-requires c =
    let a = c.args in
    let none = said_none c.in_ok-check_job.ensures refl in
    let e = job-length a.version a.vehicle a.speeds.now a.holds.now c.hold_sizes-held.ensures.count in
    (none, c.hold_sizes-held.ensures.count, omega (arith, e, version-length a.version a.vehicle a.speeds.now a.holds.now none))

pub returns : goal.returns
returns c = written_as c.args.version c.args.vehicle _ _ _ (said_none c.in_ok-check_job.ensures refl) c.put_job.ensures
