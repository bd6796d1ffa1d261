-- The holds that are counted, and those that are left, make all; so many are counted at most as there are seconds behind.
use Rattle.std.proofs.Common.{◌≡◌, ◌+◌, ◌≤◌, length}
use Rattle.writing.proofs.BytesLeft.{held_left}
use Rattle.writing.proofs.sizes.held_from.Given as goal

abbrev pub invariant-loop-i : goal.invariant-loop-i
invariant-loop-i l = (l.count ≤ l.i) × (l.count + length (held_left l.holds l.i) ≡ length (held_left l.holds l.from))
