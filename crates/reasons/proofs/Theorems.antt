-- What a reader may conclude of a second that is explained.
use Rattle.rules.proofs.Offered.{ℕ, ◌+◌, ◌≤◌, ◌<◌, ◌≡◌, ◌≢◌, true, none, some, List, length, drop, at, low, rise, closing, card, numbered, work_fault}
use Rattle.rules.proofs.Offered.{PassesOthers, role_at, kind, about, why_fault, early_fault, why}
use Rattle.rules.specs.declared.Vehicle.{Vehicle}
use Rattle.reasons.specs.Says.{fact, Shows, Agrees, Chooses, Wants}
use Rattle.reasons.proofs.Passed.{accepted_said}
use Rattle.reasons.proofs.Shown.{shows_card}
use Rattle.reasons.proofs.Chosen.{chooses_there}
use Rattle.reasons.proofs.Listed.{agrees_there, idle_there}
use Rattle.reasons.proofs.Wanted.{wants_why}

-- where asking is not refused, the last gear of the chain is the card's gear, and the clutch the card's bit
pub why_is_the_card : (car : Vehicle) (vs hs : List ℕ) (s : ℕ) → why_fault car vs hs s ≡ none → Shows (why car vs hs s) (at (card car vs hs) s)
why_is_the_card = shows_card

-- and it is refused at no second of a trace that the working accepts
pub accepted_is_explained : (car : Vehicle) (vs hs old : List ℕ) → work_fault car vs hs old ≡ none → (s : ℕ) → s < length vs → why_fault car vs hs s ≡ none
accepted_is_explained = accepted_said

-- the gear marked as chosen is the first choice of the facts listed, where no gear is held
pub why-first_choice : (car : Vehicle) (vs hs : List ℕ) (s : ℕ) → early_fault car vs hs s ≡ none → kind vs s ≢ 0 → at hs (about vs s) ≡ 0
    → let i = about vs s in Chooses car (role_at car vs hs i) (at vs i) (rise vs i) (why car vs hs s)
why-first_choice = chooses_there

-- what is listed of each gear agrees with itself, where a gear is held too
pub why_agrees : (car : Vehicle) (vs hs : List ℕ) (s : ℕ) → early_fault car vs hs s ≡ none → kind vs s ≢ 0
    → (g : ℕ) → low car ≤ g → g ≤ car.ng → Agrees car g (fact (why car vs hs s) g)
why_agrees = agrees_there

-- request Two: in the closing run the minimum of the gear above the lowest is idle itself, at a trip's first second too
pub why-closing-run : (car : Vehicle) (vs hs : List ℕ) (s : ℕ) → early_fault car vs hs s ≡ none → kind vs s ≢ 0 → closing (drop (about vs s) vs) ≡ true
    → (fact (why car vs hs s) (low car + 1)).minimum ≡ car.idle
why-closing-run = idle_there

-- where a trace is refused by 10 and by nothing before, the second given, the lowest such, has no gear among those listed that fits
pub why_want : (car : Vehicle) (vs hs old : List ℕ) → PassesOthers car vs hs old → (i : ℕ) → work_fault car vs hs old ≡ some (numbered 10 i)
    → Wants (why car vs hs i)
why_want = wants_why
