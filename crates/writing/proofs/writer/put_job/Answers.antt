-- The pieces of the job's bytes, put one after another.
use Rattle.rules.proofs.Offered.{arith, longest, writable}
use Rattle.reading.proofs.PutInTurn.{put_both}
use Rattle.writing.proofs.Bytes.{job_pieces, job-length}
use Rattle.writing.proofs.Checked.{short, light}
use Rattle.writing.proofs.writer.put_job.Goals as goal

pub put_group-at-requires : goal.put_group-at-requires
put_group-at-requires c =
    let a = c.args in omega (arith, job-length a.version a.car.now a.speeds.now a.holds.now c.requires.1)

pub put_vehicle-at-requires : goal.put_vehicle-at-requires
put_vehicle-at-requires c =
    let a = c.args in (
      (writable a.version a.car.now a.speeds.now a.holds.now c.requires.0).bounds,
      omega (arith, job-length a.version a.car.now a.speeds.now a.holds.now c.requires.1),
    )

pub put_trace-at-requires : goal.put_trace-at-requires
unfolding longest
put_trace-at-requires c =
    let a = c.args in (
      short a.version a.car.now a.speeds.now a.holds.now c.requires.0,
      omega (arith, (writable a.version a.car.now a.speeds.now a.holds.now c.requires.0).not_long),
      omega (arith, job-length a.version a.car.now a.speeds.now a.holds.now c.requires.1),
    )

pub put_group-at-requires-2 : goal.put_group-at-requires-2
put_group-at-requires-2 c =
    let a = c.args in omega (arith, job-length a.version a.car.now a.speeds.now a.holds.now c.requires.1)

pub put_held-requires : goal.put_held-requires
put_held-requires c =
    let a = c.args in (
      light a.version a.car.now a.speeds.now a.holds.now c.requires.0,
      c.requires.1,
      omega (arith, job-length a.version a.car.now a.speeds.now a.holds.now c.requires.1),
    )

pub returns : goal.returns
returns c =
    let a = c.args in
    let last = put_both c.put_trace-at.ensures (put_both c.put_group-at-2.ensures c.put_held.ensures) in
    rw (job_pieces a.version a.car.now a.speeds.now a.holds.now, ← c.requires.1)
    (put_both c.put_group-at.ensures (put_both c.put_vehicle-at.ensures last))
