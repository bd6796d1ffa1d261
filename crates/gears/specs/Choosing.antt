-- The rules of a choice as the functions take them, and what those functions ask.
use Rattle.std.specs.Prelude.{ℕ, suc, ◌+◌, ◌-◌, ◌*◌, ◌≤◌, ◌<◌, ◌≡◌, refl, Bool, List, ltb, eqb, ℤ, pos, nat_abs, ◌*ℤ◌, if◌then◌else◌}
use Rattle.rules.specs.Words.{le_z}
use Rattle.rules.specs.Words.{◌and◌, at, pass}
use Rattle.rules.specs.declared.Vehicle.{Vehicle}
use Rattle.rules.specs.declared.Role.{Role}
use Rattle.rules.specs.declared.Role.TheVariants.{Inner}
use Rattle.rules.specs.Gears.{Power, minimum, engine, fits, more, choose}
use Rattle.rules.specs.Units.{low, fastest, steepest, rise}
use Rattle.rules.specs.Corrections.{here, first_choice}
use Rattle.gears.specs.declared.Power as code
use Rattle.gears.specs.declared.Best.{Best}

-- ---- the curve

-- the available power of each point of a vehicle, p x (100 - M - m), and past them what the room held before
unfoldable pub available : Vehicle → List ℕ → List ℕ
available car room = pass (λ i done. at car.p i * (100 - car.margin - at car.m i)) car.points room

-- a curve that rises from point to point, and an engine speed no higher than its last
pub record Curve (car : Vehicle) (x : ℕ) : Type 0 where
  pub from : 2 ≤ car.points
  pub to : car.points ≤ 64
  pub rises : (k : ℕ) → suc k < car.points → at car.n k < at car.n (suc k)
  pub reaches_to : x ≤ 1000 * at car.n (car.points - 1)

-- a segment and an engine speed that the arrays and the products have room for
pub record Segment (x s : ℕ) : Type 0 where
  pub next : s < 63
  pub small : x ≤ 65535000

-- the code's power, as the rules have it
abbrev pub power_of : code.Power → Power
power_of r = record { Q = r.q; w = r.w }

-- a gear that turns the engine no faster than nmax
pub record Turning (car : Vehicle) (v g : ℕ) : Type 0 where
  pub from : 1 ≤ g
  pub to : g ≤ car.ng
  pub under : engine car g v ≤ 1000 * car.nmax

-- ---- the choice

-- a power within its bounds
pub record PowerSized (r : code.Power) : Type 0 where
  pub q_in : nat_abs r.q ≤ 1000000000000
  pub w_in : nat_abs r.w ≤ 1000

-- the largest E of a vehicle in bounds
abbrev pub most_E : ℕ
most_E = 4890000000000000

-- a power and an E within their bounds
pub record Weighed (a : code.Power) (e : ℤ) : Type 0 where
  pub sized : PowerSized a
  pub e_in : nat_abs e ≤ most_E

-- a power is enough for E
unfoldable pub enough_for : Power → ℤ → Bool
enough_for a e = le_z (e *ℤ a.w) (a.Q *ℤ pos 3240000)

-- one of the gears
pub record InGear (car : Vehicle) (g : ℕ) : Type 0 where
  pub from : 1 ≤ g
  pub to : g ≤ car.ng

-- a speed and a step in bounds
pub record Pace (v : ℕ) (d : ℤ) : Type 0 where
  pub v_to : v ≤ fastest
  pub d_in : nat_abs d ≤ steepest

-- ---- fitting

-- a gear from two above the lowest on, under the minimum that these share
unfoldable pub out_of_reach : Vehicle → ℕ → ℕ → Bool
out_of_reach car v g = ltb (engine car g v) (1000 * minimum car Inner (low car + 2)) and ltb (low car + 1) g

-- the gear above the lowest, under its own minimum at X = x
unfoldable pub under_minimum : Vehicle → Role → ℕ → ℕ → Bool
under_minimum car here g x = eqb g (low car + 1) and ltb x (1000 * minimum car here (low car + 1))

-- ---- the fallback

-- the choice where only the lowest gear may fit: that gear if it fits, otherwise 0
unfoldable pub only_lowest : Vehicle → Role → ℕ → ℕ
only_lowest car here v = if fits car here v (low car) then low car else 0

-- gear g with power a where it has more than the best so far, otherwise that one
unfoldable pub the_stronger : Best → ℕ → code.Power → Best
the_stronger b g a = if more (power_of a) (power_of b.power) then record { gear = g; power = a } else b

-- ---- the first choice

-- the first choice: the held gear if there is one, otherwise the rules' choice; 0 where no gear fits
unfoldable pub first_of : Vehicle → Role → ℕ → ℤ → ℕ → ℕ
first_of car here v d hold = if eqb hold 0 then choose car here v d else hold

-- it is the first choice of second j of a trip
pub first_parts : (car : Vehicle) (us hs : List ℕ) (j : ℕ) (gs : List ℕ)
    → first_choice car us hs j gs ≡ first_of car (here car us hs j gs) (at us j) (rise us j) (at hs j)
unfolding first_choice first_of
first_parts car us hs j gs = refl
