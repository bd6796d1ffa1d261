-- What is kept is the refusal of the seconds so far, with its number.
use Rattle.std.proofs.Common.{◌≡◌}
use Rattle.rules.specs.Refusals.{said, seconds_fault}
use Rattle.checks.specs.Asked.{speeds_in, holds_in}
use Rattle.checks.proofs.OnePass.{least_of}
use Rattle.checks.proofs.seconds.judge_seconds.Given as goal

abbrev pub invariant-loop-i : goal.invariant-loop-i
invariant-loop-i l = record {
  same : said l.first ≡ seconds_fault l.car (speeds_in l.trace) (holds_in l.trace) l.span.lo l.i;
  number : l.least ≡ least_of (said l.first);
}
