-- The changes up to second i - 1 are counted.
use Rattle.rules.proofs.Offered.{◌-◌, ◌≤◌, ◌<◌, ◌≡◌, tally, changes}
use Rattle.summaries.proofs.stretch.changes_in.Given as goal

abbrev pub invariant-loop-i : goal.invariant-loop-i
invariant-loop-i l =
    (l.fn.span.lo < l.i) × (l.i - 1 - l.fn.span.lo ≤ l.fn.span.hi - 1 - l.fn.span.lo)
    × (l.changes ≡ tally (changes l.speeds l.card) l.fn.span.lo (l.i - 1 - l.fn.span.lo))
