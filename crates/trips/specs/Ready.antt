-- What the functions of one trip ask of their arguments.
use Rattle.std.specs.Prelude.{ℕ, suc, ◌≤◌, ◌<◌, ◌≡◌, true, List, nat_abs, length}
use Rattle.rules.specs.Words.{at}
use Rattle.rules.specs.declared.Vehicle.{Vehicle}
use Rattle.rules.specs.Units.{fastest, steepest, moving, rise}
use Rattle.gears.specs.Second.{Gear}

-- a hold and a gear for each second of the trip, and one speed more: the one that follows
pub record Aligned (us hs gs : List ℕ) : Type 0 where
  pub speeds : length us ≡ suc (length hs)
  pub gears : length gs ≡ length hs

-- gears that the ratios have places for, and one speed more than gears
pub record WithGears (us gs : List ℕ) : Type 0 where
  pub speeds : length us ≡ suc (length gs)
  pub gear : (j : ℕ) → j < length gs → Gear (at gs j)

-- speeds and steps within their bounds
pub record Paced (us hs : List ℕ) : Type 0 where
  pub speed : (j : ℕ) → j < length hs → at us j ≤ fastest
  pub step : (j : ℕ) → j < length hs → nat_abs (rise us j) ≤ steepest

-- a trip that the checks have passed: of the refusals it takes 3, 4, 5 and 7
pub record ReadyTrip (car : Vehicle) (us hs gs : List ℕ) : Type 0 where
  pub lists : Aligned us hs gs
  pub pace : Paced us hs
  pub hold : (j : ℕ) → j < length hs → at hs j ≤ car.ng
  pub moves : (j : ℕ) → j < length hs → moving (at us j) ≡ true
