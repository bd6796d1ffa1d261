-- 1 and 2, by the lengths: each way out is the row's.
use Rattle.rules.proofs.Offered.{arith, ◌≤◌, length, longest}
use Rattle.checks.proofs.Rows.{longest_is, no_seconds, too_long, holds_short, card_short, lengths_good}
use Rattle.checks.proofs.opening.check_lengths.Goals as goal
use Rattle.checks.proofs.opening.check_lengths.Goals.{then-speeds-eq0-via-then-speeds-eq0, then-speeds-eq0-via-else-speeds-eq0+then-speeds-gt-LONGEST}
use Rattle.checks.proofs.opening.check_lengths.Goals.{then-holds-speeds-via-then-holds-speeds, then-holds-speeds-via-else-holds-speeds+then-card-speeds}

pub returns-then-speeds-eq0 : goal.returns-then-speeds-eq0
returns-then-speeds-eq0 c = λ vs hs old e f g.
    elim c.then-speeds-eq0.branch [
      | then-speeds-eq0-via-then-speeds-eq0 w ↦ no_seconds vs hs old (omega arith)
      | then-speeds-eq0-via-else-speeds-eq0+then-speeds-gt-LONGEST w ↦ too_long vs hs old (omega (arith, longest_is))
    ]

pub returns-then-holds-speeds : goal.returns-then-holds-speeds
returns-then-holds-speeds c = λ vs hs old e f g.
    let b : length vs ≤ longest = omega (arith, longest_is) in
    elim c.then-holds-speeds.branch [
      | then-holds-speeds-via-then-holds-speeds w ↦ holds_short vs hs old (omega arith) b (omega arith)
      | then-holds-speeds-via-else-holds-speeds+then-card-speeds w ↦ card_short vs hs old (omega arith) b (omega arith) (omega arith)
    ]

pub returns : goal.returns
returns c = λ vs hs old e f g. lengths_good vs hs old (omega arith) (omega (arith, longest_is)) (omega arith) (omega arith)
