-- What the functions that explain a second ask of their arguments.
use Rattle.std.specs.Prelude.{ℕ, suc, ◌≤◌, ◌<◌, ◌≡◌, false, List, length, drop}
use Rattle.rules.specs.Words.{none, at}
use Rattle.rules.specs.declared.Vehicle.{Vehicle}
use Rattle.rules.specs.declared.Reasons.{Reasons}
use Rattle.rules.specs.Corrections.{closing, here, firsts, after_A, after_B, gears}
use Rattle.rules.specs.Units.{low, longest, start, stop}
use Rattle.rules.specs.Why.{kind, about, ceiling_of, why_lo, why_end, early_fault}
use Rattle.checks.specs.Want.{Ahead}
use Rattle.reasons.specs.declared.Chain.{Chain}
use Rattle.reasons.specs.declared.Kind.{Kind}
use Rattle.reasons.specs.declared.Kind.TheVariants.{Standing, BeforeTrip, Moving}
use Rattle.reasons.specs.declared.View.{View}

-- the number of what a second is, in the C record
abbrev pub kind_code : Kind → ℕ
kind_code Standing = 0
kind_code BeforeTrip = 1
kind_code Moving = 2

-- a second of the trace as it is seen: what it is, the second that is spoken of, its trip, and the seconds that are checked
pub record Viewed (vs : List ℕ) (view : View) : Type 0 where
  pub kind_is : kind_code view.kind ≡ kind vs view.second
  pub about_is : view.about ≡ about vs view.second
  pub from : view.trip.lo ≡ start vs view.about
  pub to : view.trip.hi ≡ stop vs view.about
  pub checked_from : view.checked.lo ≡ why_lo vs view.second
  pub checked_to : view.checked.hi ≡ why_end vs view.second

-- where it is so seen and the early checks pass
pub record Passed (car : Vehicle) (vs hs : List ℕ) (view : View) : Type 0 where
  pub viewed : Viewed vs view
  pub early : early_fault car vs hs view.second ≡ none

-- a gear that is driven, of a vehicle whose gears all have a place and whose rated speed is not below idle
pub record DrivenGear (car : Vehicle) (g : ℕ) : Type 0 where
  pub from : low car ≤ g
  pub to : g ≤ car.ng
  pub ng_to : car.ng ≤ 10
  pub rated_from : car.idle ≤ car.rated

-- second j of a trip, whose gears leave room for one more in a byte
pub record Low (us hs gs : List ℕ) (j : ℕ) : Type 0 where
  pub speeds : length us ≡ suc (length hs)
  pub gears : length gs ≡ length hs
  pub inside : j < length hs
  pub small : (i : ℕ) → i < length hs → at gs i < 255

-- what the stages of a trip leave at second j
unfoldable pub chain_of : Vehicle → List ℕ → List ℕ → ℕ → Chain
chain_of car us hs j = record {
  role = here car us hs j (firsts car us hs);
  closes = closing (drop j us);
  choice = at (firsts car us hs) j;
  after_a = at (after_A car us hs) j;
  after_b = at (after_B car us hs) j;
  after_c = at (gears car us hs) j;
  ceiling = ceiling_of car us hs j;
}

-- second i of the trip from a up to b, whose speeds, steps and holds pass the checks
pub record InTrip (car : Vehicle) (vs hs : List ℕ) (i a b : ℕ) : Type 0 where
  pub trip : Ahead vs a b
  pub rooms : length hs ≡ length vs
  pub short : length vs ≤ longest
  pub since : a ≤ i
  pub until : i < b
  pub hold : (j : ℕ) → a ≤ j → j < b → at hs j ≤ car.ng

-- what is said where some second of the trip wants a gear
unfoldable pub uncorrected : Reasons → Reasons
uncorrected all = record {
  about = all.about;
  first = all.first;
  last = all.last;
  required = all.required;
  gears = all.gears;
  kind = all.kind;
  role = all.role;
  held = all.held;
  choice = all.choice;
  sentence = all.sentence;
  after_a = 0;
  after_b = 0;
  after_c = 0;
  floor = all.floor;
  ceiling = 0;
  clutch = false;
  clutch_reason = 0;
  byte = 0;
}
