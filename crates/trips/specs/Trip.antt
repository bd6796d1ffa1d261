-- What the functions of one trip promise, in the words of their contracts.
use Rattle.std.specs.Prelude.{ℕ, suc, ◌+◌, ◌-◌, ◌<◌, max, min, ◌≡◌, Bool, true, false, List, leb, eqb, length, drop, if◌then◌else◌}
use Rattle.rules.specs.Words.{◌and◌, ◌or◌, at, pass}
use Rattle.rules.specs.Words.{table}
use Rattle.rules.specs.declared.Vehicle.{Vehicle}
use Rattle.rules.specs.Units.{moving, rise}
use Rattle.rules.specs.Corrections.{closing, role_of, gears, byte}
use Rattle.gears.specs.Second.{Gear}
use Rattle.gears.specs.Choosing.{first_of}

-- every second of the trip is moving
pub record AllMoving (us : List ℕ) : Type 0 where
  pub second : (i : ℕ) → suc i < length us → moving (at us i) ≡ true

-- the closing run begins at second r: the last of us is no second of the trip
pub record RunFrom (us : List ℕ) (r : ℕ) : Type 0 where
  pub within : r < length us
  pub run : (i : ℕ) → suc i < length us → closing (drop i us) ≡ leb r i

-- the first choice of second j of some in a row: whether the trip begins with them, where among them the closing run begins, and the first choice before them
unfoldable pub on_way : Vehicle → List ℕ → List ℕ → Bool → ℕ → ℕ → ℕ → List ℕ → ℕ
on_way car us hs begins run last j gs =
    first_of car (role_of car (begins and eqb j 0) (leb run j) (if eqb j 0 then last else at gs (j - 1))) (at us j) (rise us j) (at hs j)

-- gs holds the first choices up to second j, which is not the trip's first, and last is the first choice before it
pub record WayTo (car : Vehicle) (us hs : List ℕ) (run : ℕ) (begins : Bool) (before : ℕ) (base gs : List ℕ) (last j : ℕ) : Type 0 where
  pub not_first : (begins and eqb j 0) ≡ false
  pub last_is : last ≡ (if eqb j 0 then before else at gs (j - 1))
  pub so_far : gs ≡ pass (on_way car us hs begins run before) j base

-- a trip with these holds and gears whose closing run begins at second r
pub record Closes (r : ℕ) (hs gs : List ℕ) : Type 0 where
  pub us : List ℕ
  pub speeds : length us ≡ suc (length hs)
  pub gears : length gs ≡ length hs
  pub run : RunFrom us r

-- g is one above the larger of p and q, and one or two above the smaller
unfoldable pub one_above : ℕ → ℕ → ℕ → Bool
one_above p g q = eqb g (max p q + 1) and (eqb g (min p q + 1) or eqb g (min p q + 2))

-- every second of the trip has a gear: 7 and 10 have passed
pub record AllGeared (car : Vehicle) (us hs : List ℕ) : Type 0 where
  pub gear : (j : ℕ) → j < length hs → Gear (at (gears car us hs) j)

-- the bytes of a trip, from its own speeds with the one that follows, and its own holds
unfoldable pub trip_bytes : Vehicle → List ℕ → List ℕ → List ℕ
trip_bytes car us hs = table (λ j. byte car us j (at (gears car us hs) j)) 0 (length hs)
