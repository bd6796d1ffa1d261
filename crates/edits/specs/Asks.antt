-- What the code asks the checks of an edit, what it knows where none of them refuses, and what carrying it out asks and leaves.
use Rattle.std.specs.Prelude.{ℕ, ◌-◌, ◌≡◌, List, length, eqb, if◌then◌else◌, Result, Ok, Err}
use Rattle.rules.specs.Words.{at, patch}
use Rattle.rules.specs.declared.Vehicle.{Vehicle}
use Rattle.rules.specs.declared.Summary.{Summary}
use Rattle.rules.specs.declared.Refusal.{Refusal}
use Rattle.rules.specs.Refusals.{Answer}
use Rattle.rules.specs.declared.Edit.{Edit}
use Rattle.rules.specs.declared.Edit.TheVariants.{Hold, Release, Mend}
use Rattle.rules.specs.Edit.{Screen, showing, asked_speeds, asked_holds, span}
use Rattle.rules.specs.Corrections.{card_at}
use Rattle.rules.specs.Summary.{updated}
use Rattle.rules.specs.Inside.{InBounds}
use Rattle.gears.specs.Powers.{Powers}
use Rattle.checks.specs.declared.trace.Asked.{Asked}
use Rattle.cards.specs.Rework.{Range, Passes}
use Rattle.summaries.specs.Tallies.{tallied, in_ten, Countable}
use Rattle.edits.specs.declared.Judged.{Judged}

-- the screen that stands in the three lists that an edit is lent, with its summary
abbrev pub screen : List ℕ → List ℕ → List ℕ → Summary → Screen
screen speeds holds card n = showing speeds holds card n

-- the answer alone, without the summary that it brings
abbrev pub answer_in : Result Summary Refusal → Answer
answer_in (Ok n) = Ok tt
answer_in (Err r) = Err r

-- a gear above every ng
unfoldable pub over_all : ℕ
over_all = 255

-- a gear as the checks judge it: 0 is no gear, and counts as one above every ng
unfoldable pub gear_asked : ℕ → ℕ
gear_asked g = if eqb g 0 then over_all else g

-- a hold or a release keeps the speed that is there, a mended sample the hold
unfoldable pub asked_of : Edit → List ℕ → List ℕ → Asked
asked_of (Hold s g) vs hs = record { second = s; speed = at vs s; gear = gear_asked g }
asked_of (Release s) vs hs = record { second = s; speed = at vs s; gear = 0 }
asked_of (Mend s v) vs hs = record { second = s; speed = v; gear = at hs s }

-- an edit that no check refuses: where it re-works, with what powers, that every check passes there, and what the card counts there
pub record Clear (car : Vehicle) (e : Edit) (vs hs old : List ℕ) (j : Judged) (powers : List ℕ) : Type 0 where
  pub from : j.range.lo ≡ (span e vs).lo
  pub to : j.range.hi ≡ (span e vs).hi
  pub bounds : InBounds car
  pub derated : Powers car powers
  pub passes : Passes car (asked_speeds e vs) (asked_holds e hs) (span e vs).lo (span e vs).hi
  pub counted_are : j.counted ≡ tallied vs old (span e vs).lo ((span e vs).hi - (span e vs).lo)

-- an edit that is judged, and written: its range can be re-worked, and then counted again
pub record Carries (car : Vehicle) (vs hs old : List ℕ) (j : Judged) : Type 0 where
  pub reworkable : Range vs hs old j.range.lo j.range.hi
  pub passes : Passes car vs hs j.range.lo j.range.hi
  pub countable : (new : List ℕ) → length new ≡ length old → Countable vs new j.range.lo j.range.hi

-- and carried out: the card re-worked there, and the summary less what was counted there, with what is now
pub record CarriedOut (car : Vehicle) (vs hs old : List ℕ) (j : Judged) (n r : Summary) (new : List ℕ) : Type 0 where
  pub reworked : new ≡ patch old j.range.lo j.range.hi (card_at car vs hs)
  pub recounted : r ≡ updated n (in_ten j.counted) (in_ten (tallied vs new j.range.lo (j.range.hi - j.range.lo)))
