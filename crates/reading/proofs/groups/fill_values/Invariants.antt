-- The groups that are left, put after those that are read, are what was asked.
use Rattle.std.proofs.Common.{length}
use Rattle.std.proofs.lemmas.List.Edits.{sets}
use Rattle.rules.specs.Forms.{value, many}
use Rattle.reading.proofs.Loops.{Many}
use Rattle.reading.proofs.groups.fill_values.Given as goal

abbrev pub invariant-loop-value : goal.invariant-loop-value
invariant-loop-value l =
    let n = length l.fn.room in Many value l.job n l.value-index l.next (sets l.room l.value-index) ((many value n).read l.job l.at)
