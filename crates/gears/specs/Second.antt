-- What the functions of one second ask of their arguments.
use Rattle.std.specs.Prelude.{ℕ, ◌+◌, ◌≤◌, ◌<◌, ℤ, nat_abs}
use Rattle.rules.specs.Words.{at}
use Rattle.rules.specs.declared.Vehicle.{Vehicle}
use Rattle.rules.specs.Units.{low, fastest, steepest}
use Rattle.gears.specs.Limits.{road_of}
use Rattle.gears.specs.declared.Road.{Road}

-- a gear that the array of ratios has a place for
pub record Gear (g : ℕ) : Type 0 where
  pub from : 1 ≤ g
  pub to : g ≤ 10

-- the lowest gear or above, of a vehicle whose rated speed is not under idle
pub record Lowest (car : Vehicle) (g : ℕ) : Type 0 where
  pub from : low car ≤ g
  pub rated_from : car.idle ≤ car.rated

-- a vehicle whose gears all have a place, and whose lowest is one of them
pub record Driven (car : Vehicle) : Type 0 where
  pub ng_to : car.ng ≤ 10
  pub low_to : low car ≤ car.ng

-- a vehicle whose gears all have a place, and whose rated speed is not under idle
pub record HasMinima (car : Vehicle) : Type 0 where
  pub ng_to : car.ng ≤ 10
  pub rated_from : car.idle ≤ car.rated

-- a number of points that the curve's arrays have places for, and at least one
pub record Points (count : ℕ) : Type 0 where
  pub from : 1 ≤ count
  pub to : count ≤ 64

-- points that the curve's arrays have places for, and margins that leave something of their power
pub record Derates (car : Vehicle) : Type 0 where
  pub to : car.points ≤ 64
  pub left : (i : ℕ) → i < car.points → car.margin + at car.m i ≤ 90

-- a road load, a mass, a speed and a step in bounds
pub record LoadOn (road : Road) (v : ℕ) (d : ℤ) : Type 0 where
  pub f0_to : road.f0 ≤ 10000
  pub f1_in : nat_abs road.f1 ≤ 5000
  pub f2_to : road.f2 ≤ 20000
  pub tm_to : road.tm ≤ 4000
  pub v_to : v ≤ fastest
  pub d_in : nat_abs d ≤ steepest

-- so of a vehicle
abbrev pub Load : Vehicle → ℕ → ℤ → Type 0
Load car v d = LoadOn (road_of car) v d
