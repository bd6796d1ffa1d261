-- Judging the holds that are left is what was asked.
use Rattle.std.proofs.Common.{true}
use Rattle.reading.specs.Progress.{hold_row, used}
use Rattle.reading.proofs.Loops.{Holds}
use Rattle.reading.proofs.holds.judge_holds.Given as goal

abbrev pub invariant-loop : goal.invariant-loop
invariant-loop l = Holds l.count l.job l.holds l.counter l.next l.place (λ hs. true) (used (λ hs. true) (hold_row l.count l.holds) l.job l.at)
