-- The bytes that are measured, and those that are left, make all; and no value has more than two after its first.
use Rattle.std.proofs.Common.{◌≡◌, ◌+◌, ◌*◌, ◌≤◌, length, drop}
use Rattle.writing.specs.Writing.{values_bytes}
use Rattle.writing.proofs.sizes.values_size.Given as goal

abbrev pub invariant-loop-v : goal.invariant-loop-v
invariant-loop-v l =
    (l.extra ≤ 2 * l.v-index) × (l.v-index + l.extra + length (values_bytes (drop l.v-index l.values)) ≡ length (values_bytes l.values))
