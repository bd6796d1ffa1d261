-- The three demands, as what an outcome must be like: what is said, nothing or a refusal's number and place, and what is left in the lent lists.
use Rattle.rules.specs.Words.{Option, none, some, at}
use Rattle.std.specs.Prelude.{◌↔◌, ℕ, ◌<◌, ◌≡◌, ◌≢◌, false, List, length}
use Rattle.rules.specs.declared.Vehicle.{Vehicle}
use Rattle.rules.specs.declared.Edit.{Edit}
use Rattle.rules.specs.declared.Edit.TheVariants.{Hold}
use Rattle.rules.specs.Corrections.{shown, card}
use Rattle.rules.specs.Refusals.{Fault, numbered, work_fault}
use Rattle.rules.specs.Edit.{Screen, second, asked_speeds, asked_holds, span}
use Rattle.rules.specs.Vocabulary.Choosing.{Wanting, PassesOthers}
use Rattle.rules.specs.Vocabulary.Edits.{Out, Right, none_held}

-- ---- the whole working: f is said of the speeds vs and the holds hs, and the lent card old is left as new

module _ (car : Vehicle) (vs hs old : List ℕ) (f : Option Fault) (new : List ℕ) where
  -- 1: refused by number and place exactly where the table says, and a refusal changes no byte
  pub record Demand1 : Type 0 where
    pub table : f ≡ work_fault car vs hs old
    pub untouched : (q : Fault) → f ≡ some q → new ≡ old

  -- 2: an accepted trace gets, at every second, the gear and clutch that document 01 prescribes; one that passes the other checks is refused exactly when
  -- some second is wanting a gear, and then by 10
  pub record Demand2 : Type 0 where
    pub prescribed : f ≡ none → new ≡ card car vs hs
    pub want : PassesOthers car vs hs old → ((i : ℕ) × (f ≡ some (numbered 10 i))) ↔ ((i : ℕ) × Wanting car vs hs i)
    pub by_10 : PassesOthers car vs hs old → (q : Fault) → f ≡ some q → q.no ≡ 10

-- ---- an edit e of the screen x: f is said, and y is left

module _ (car : Vehicle) (e : Edit) (x : Screen) (f : Option Fault) (y : Screen) where
  -- 3: from a right card the very refusal, or the very card, that any working of the new speeds and holds gives that meets demands 1 and 2; of holding for
  -- gears from 1. Right or not, no byte changes outside the span, no speed and no hold but those of the second; and a held second shows its hold
  pub record Demand3 : Type 0 where
    pub as_whole : Right car x → second e < length x.speeds → none_held e ≡ false → {t : Option Fault} {fresh : List ℕ}
        → Demand1 car (asked_speeds e x.speeds) (asked_holds e x.holds) x.card t fresh
        → Demand2 car (asked_speeds e x.speeds) (asked_holds e x.holds) x.card t fresh → (f ≡ t) × (y.card ≡ fresh)
    pub frame : (i : ℕ) → Out (span e x.speeds).lo (span e x.speeds).hi i → at y.card i ≡ at x.card i
    pub frame_speeds : (i : ℕ) → i ≢ second e → at y.speeds i ≡ at x.speeds i
    pub frame_holds : (i : ℕ) → i ≢ second e → at y.holds i ≡ at x.holds i
    pub shows : (s g : ℕ) → e ≡ Hold s g → f ≡ none → shown (at y.card s) ≡ g
