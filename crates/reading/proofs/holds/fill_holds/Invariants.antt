-- Reading the holds that are left into the room as it stands is what was asked.
use Rattle.std.proofs.Common.{length, replicate}
use Rattle.rules.specs.Job.{put}
use Rattle.reading.specs.Progress.{hold_row, used}
use Rattle.reading.proofs.Loops.{Putting}
use Rattle.reading.proofs.holds.fill_holds.Given as goal

abbrev pub invariant-loop : goal.invariant-loop
invariant-loop l =
    let n = length l.fn.room in
    Putting n l.job l.holds l.counter l.place l.room (used (λ hs. put hs (replicate n 0)) (hold_row n l.holds) l.job l.at)
