-- Each turn leaves less of the number.
use Rattle.runs.proofs.lines.Draft.with_group.Given as goal

abbrev pub decreases-loop-left : goal.decreases-loop-left
decreases-loop-left l = l.left
