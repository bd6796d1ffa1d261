-- Judging the groups that are left is what was asked.
use Rattle.std.proofs.Common.{true}
use Rattle.rules.specs.Forms.{value, many}
use Rattle.reading.specs.Progress.{used}
use Rattle.reading.proofs.Loops.{Many}
use Rattle.reading.proofs.groups.judge_speeds.Given as goal

abbrev pub invariant-loop : goal.invariant-loop
invariant-loop l = Many value l.job l.count l.counter l.next (λ vs. true) (used (λ vs. true) (many value l.count) l.job l.at)
