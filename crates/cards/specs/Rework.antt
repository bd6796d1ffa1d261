-- What working the card in place asks.
use Rattle.std.specs.Prelude.{ℕ, suc, ◌≤◌, ◌<◌, min, ◌≡◌, false, List, nat_abs, length}
use Rattle.rules.specs.Words.{none, at}
use Rattle.rules.specs.declared.Vehicle.{Vehicle}
use Rattle.rules.specs.Units.{fastest, steepest, moving, rise}
use Rattle.rules.specs.Refusals.{span_fault}
use Rattle.rules.specs.Vocabulary.Choosing.{IsTrip}
use Rattle.rules.specs.Inside.{Fit}

-- a trip from a up to b, between two standing seconds, whose speeds and steps pass the checks
pub record Between (vs hs old : List ℕ) (a b : ℕ) : Type 0 where
  pub holds : length hs ≡ length vs
  pub room : length old ≡ length vs
  pub trip : IsTrip vs a b
  pub before : 1 ≤ a
  pub after : b < length vs
  pub speed_to : (i : ℕ) → a ≤ i → i ≤ b → at vs i ≤ fastest
  pub step_to : (i : ℕ) → a ≤ i → i < b → nat_abs (rise vs i) ≤ steepest

-- its seconds pass the checks on which their gears lean
abbrev pub Fitting : Vehicle → List ℕ → List ℕ → ℕ → ℕ → Type 0
Fitting car vs hs a b = (i : ℕ) → a ≤ i → i < b → Fit car vs hs i

-- a range of the trace, from a standing second up to a standing one or the trace's end
pub record Range (vs hs old : List ℕ) (lo hi : ℕ) : Type 0 where
  pub holds : length hs ≡ length vs
  pub room : length old ≡ length vs
  pub order : lo ≤ hi
  pub inside : hi ≤ length vs
  pub begins : moving (at vs lo) ≡ false
  pub ends : moving (at vs hi) ≡ false

-- it passes every check
abbrev pub Passes : Vehicle → List ℕ → List ℕ → ℕ → ℕ → Type 0
Passes car vs hs lo hi = span_fault car vs hs lo (min (suc hi) (length vs)) ≡ none

-- a standing second of such a range
pub record At (vs hs old : List ℕ) (i : ℕ) : Type 0 where
  pub lo : ℕ
  pub hi : ℕ
  pub range : Range vs hs old lo hi
  pub since : lo ≤ i
  pub until : i < hi
  pub standing : moving (at vs i) ≡ false
  pub in_trace : i < length vs
