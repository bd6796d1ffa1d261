-- What is said of the gears up to i is there.
use Rattle.rules.proofs.Offered.{◌≡◌, ◌+◌, ◌<◌, ℕ, ℤ, gear_facts, no_facts, required}
use Rattle.std.proofs.Common.{get_or, length}
use Rattle.reasons.proofs.facts.gear_list.Given as goal

abbrev pub invariant-loop-i : goal.invariant-loop-i
invariant-loop-i l = record {
  long : length l.facts-items ≡ 10;
  said : (d : ℤ) → l.fn.e ≡ required l.powered.car.now l.v d → (k : ℕ) → k < l.i
      → get_or l.facts-items k no_facts ≡ gear_facts l.powered.car.now l.here l.closes l.v d (k + 1);
}
