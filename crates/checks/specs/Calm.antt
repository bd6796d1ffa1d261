-- What the cheap tests of a span ask and find.
use Rattle.std.specs.Prelude.{ℕ, zero, suc, ◌+◌, ◌-◌, ◌*◌, ◌≤◌, ◌<◌, max, ◌≡◌, ◌≢◌, false, List, length}
use Rattle.rules.specs.Words.{at}
use Rattle.rules.specs.declared.Vehicle.{Vehicle}
use Rattle.rules.specs.declared.Role.TheVariants.{AfterLow}
use Rattle.rules.specs.Units.{low, fastest, steepest, moving}
use Rattle.rules.specs.Gears.{engine, minimum}
use Rattle.rules.specs.Refusals.{step, checks, bad}
use Rattle.checks.specs.Checks.{fault_no, hold_checks}

-- seconds of the trace, from lo up to hi
pub record Seconds (vs : List ℕ) (lo hi : ℕ) : Type 0 where
  pub order : lo ≤ hi
  pub inside : hi ≤ length vs

-- seconds of the trace, and second s one of them
pub record Around (vs : List ℕ) (lo hi s : ℕ) : Type 0 where
  pub since : lo ≤ s
  pub until : s < hi
  pub inside : hi ≤ length vs

-- so it is at each place from lo up to hi
abbrev pub Each : (ℕ → Type 0) → ℕ → ℕ → Type 0
Each P lo hi = (i : ℕ) → lo ≤ i → i < hi → P i

-- nothing from lo up to hi is above r
abbrev pub AtMost : (ℕ → ℕ) → ℕ → ℕ → ℕ → Type 0
AtMost f lo hi r = Each (λ i. f i ≤ r) lo hi

-- how far apart a second and the one before it are
abbrev pub gap_at : List ℕ → ℕ → ℕ
gap_at vs i = (at vs (i - 1) - at vs i) + (at vs i - at vs (i - 1))

-- the highest of k places from lo on; 0 where there are none
unfoldable pub most_of : (ℕ → ℕ) → ℕ → ℕ → ℕ
most_of f lo zero = 0
most_of f lo (suc k) = max (most_of f lo k) (f (lo + k))

-- the highest of the speeds from lo up to hi, and the largest step between two of them
pub record Seen (vs : List ℕ) (lo hi most step : ℕ) : Type 0 where
  pub speeds : most ≡ most_of (at vs) lo (hi - lo)
  pub steps : step ≡ most_of (gap_at vs) (lo + 1) (hi - (lo + 1))

-- the span has seconds, and the first and the last stand
pub record Stands (vs : List ℕ) (lo hi : ℕ) : Type 0 where
  pub some : lo < hi
  pub first : moving (at vs lo) ≡ false
  pub last : moving (at vs (hi - 1)) ≡ false

-- gear j + 1, whose ratio stands at place j, has reached the highest of its minima wherever the gear below it turns past nmax
abbrev pub Follows : Vehicle → ℕ → Type 0
Follows car j = minimum car AfterLow (j + 1) * at car.ratio (j - 1) ≤ car.nmax * at car.ratio j

-- the highest speed of a trip's first second, one step above a standing one
abbrev pub first_fastest : ℕ
first_fastest = 9 + steepest

-- up to the speed `most` some gear fits; at the first second of a trip the lowest does
pub record NoGap (car : Vehicle) (most : ℕ) : Type 0 where
  pub some : low car ≤ car.ng
  pub at_first : engine car (low car) first_fastest ≤ 1000 * car.nmax
  pub at_most : engine car car.ng most ≤ 1000 * car.nmax
  pub covered : Each (Follows car) (low car) car.ng

-- a second of this speed passes the checks that look at a hold, if it is held in this gear
abbrev pub HoldPasses : Vehicle → ℕ → ℕ → Type 0
HoldPasses car v g = g ≢ 0 → (vs hs : List ℕ) (lo i : ℕ) → at vs i ≡ v → at hs i ≡ g → 10 ≡ fault_no car vs hs lo i hold_checks

-- so second i
abbrev pub HoldsPass : Vehicle → List ℕ → List ℕ → ℕ → Type 0
HoldsPass car vs hs i = HoldPasses car (at vs i) (at hs i)

-- nothing is wrong with the speeds, the steps and the holds from lo up to hi
pub record Quiet (car : Vehicle) (vs hs : List ℕ) (lo hi : ℕ) : Type 0 where
  pub speeds : AtMost (at vs) lo hi fastest
  pub steps : AtMost (gap_at vs) (lo + 1) hi steepest
  pub holds : Each (HoldsPass car vs hs) lo hi

-- second s, held in gear g, fails none of the checks 4 to 9, and the step from it to the next is none too large
pub record OwnPasses (car : Vehicle) (vs : List ℕ) (g lo hi s : ℕ) : Type 0 where
  pub here : (hs : List ℕ) → at hs s ≡ g → 10 ≡ fault_no car vs hs lo s checks
  pub next : s + 1 < hi → (car : Vehicle) (hs : List ℕ) → bad step car vs hs lo (s + 1) ≡ false
