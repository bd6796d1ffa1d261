-- Words of the theorems on trips, first choices, power, want of a gear and the two profiles.
use Rattle.std.specs.Prelude.{ℕ, suc, ◌+◌, ◌-◌, ◌*◌, ◌≤◌, ◌<◌, ◌≡◌, ◌≢◌, Bool, true, false, List, length, drop, eqb, ℤ, pos, ◌-ℤ◌, ◌*ℤ◌}
use Rattle.rules.specs.Words.{none, le_z, at}
use Rattle.std.specs.Prelude.{if◌then◌else◌}
use Rattle.rules.specs.declared.Vehicle.{Vehicle}
use Rattle.rules.specs.declared.Role.{Role}
use Rattle.rules.specs.Units.{ratio_of, low, moving, start}
use Rattle.rules.specs.Gears.{engine, minimum, fits, power, enough, more, suits, required, Power, between, segment, power_speed}
use Rattle.rules.specs.Refusals.{trace_fault, room_fault, vehicle_fault, seconds_fault}
use Rattle.rules.specs.Corrections.{role_of, closing, first_at}

-- ---- the trace

-- The seconds from a up to b are a trip: all are moving, and the run cannot be lengthened. Past the trace's end a second counts as standing
pub record IsTrip (vs : List ℕ) (a b : ℕ) : Type 0 where
  pub some_second : a < b
  pub inside : (k : ℕ) → a ≤ k → k < b → moving (at vs k) ≡ true
  pub before : (k : ℕ) → suc k ≡ a → moving (at vs k) ≡ false
  pub after : moving (at vs b) ≡ false

-- ---- choosing a gear

-- c is the highest gear that fits and has enough power
pub record HighestEnough (car : Vehicle) (here : Role) (v : ℕ) (d : ℤ) (c : ℕ) : Type 0 where
  pub a_gear : c ≤ car.ng
  pub fitting : fits car here v c ≡ true
  pub with_enough : enough car v d c ≡ true
  pub none_higher : (h : ℕ) → c < h → h ≤ car.ng → suits car here v d h ≡ false

-- c is the fitting gear with most power, the higher gear on a tie
pub record MostPower (car : Vehicle) (here : Role) (v c : ℕ) : Type 0 where
  pub a_gear : c ≤ car.ng
  pub fitting : fits car here v c ≡ true
  pub none_stronger : (h : ℕ) → h ≤ car.ng → fits car here v h ≡ true → more (power car v h) (power car v c) ≡ false
  pub none_higher : (h : ℕ) → c < h → h ≤ car.ng → fits car here v h ≡ true → more (power car v c) (power car v h) ≡ true

-- no gear up to ng passes a test
abbrev pub NoGear : Vehicle → (ℕ → Bool) → Type 0
NoGear car p = (g : ℕ) → g ≤ car.ng → p g ≡ false

-- document 01, "First choice at a moving second" without a hold; c is the choice
pub record FirstChoice (car : Vehicle) (here : Role) (v : ℕ) (d : ℤ) (c : ℕ) : Type 0 where
  -- the highest gear that fits and has enough power, if one does
  pub choice_enough : (g : ℕ) → g ≤ car.ng → suits car here v d g ≡ true → HighestEnough car here v d c
  -- if none has enough, the fitting gear with most power, if one fits
  pub choice_most : NoGear car (suits car here v d) → (g : ℕ) → g ≤ car.ng → fits car here v g ≡ true → MostPower car here v c
  -- if none fits, 0, for which the trace is refused
  pub choice_none : NoGear car (fits car here v) → c ≡ 0
  -- 0 is given in no other case
  pub none_fits : c ≡ 0 → NoGear car (fits car here v)

-- x lies on the segment from point k to the next
pub record OnSegment (car : Vehicle) (x k : ℕ) : Type 0 where
  pub next_point : suc k < car.points
  pub from : 1000 * at car.n k ≤ x
  pub to : x ≤ 1000 * at car.n (suc k)

-- ---- document 01 before request Six: full-load power, and M alone

-- no point of the curve has a margin of its own
abbrev pub NoMargins : Vehicle → Type 0
NoMargins car = (k : ℕ) → k < car.points → at car.m k ≡ 0

-- full-load power at a gear: between neighbouring points (n1,p1) and (n2,p2)
unfoldable pub full_load : Vehicle → ℕ → ℕ → Power
full_load car v g =
    let x = power_speed car v g in
    let k = segment car x in
    between (at car.n k) (pos (at car.p k)) (at car.n (suc k)) (pos (at car.p (suc k))) x

-- the gear has enough power: (100 - M) x Q x 3,240,000 >= E x w
unfoldable pub enough_before : Vehicle → ℕ → ℤ → ℕ → Bool
enough_before car v d g =
    le_z (required car v d *ℤ (full_load car v g).w) ((pos 100 -ℤ pos car.margin) *ℤ (full_load car v g).Q *ℤ pos 3240000)

-- ---- request Thirteen, and places that nothing looks at

-- the gears of the second vehicle, d higher, turn the engine as those of the first; all else that is looked at is the same
pub record Geared (d : ℕ) (car van : Vehicle) : Type 0 where
  pub lowest : low van ≡ low car + d
  pub highest : van.ng ≡ car.ng + d
  pub ratio : (g : ℕ) → low car ≤ g → g ≤ car.ng → ratio_of van (g + d) ≡ ratio_of car g
  pub idle : van.idle ≡ car.idle
  pub rated : van.rated ≡ car.rated
  pub nmax : van.nmax ≡ car.nmax
  pub f0 : van.f0 ≡ car.f0
  pub f1 : van.f1 ≡ car.f1
  pub f2 : van.f2 ≡ car.f2
  pub tm : van.tm ≡ car.tm
  pub margin : van.margin ≡ car.margin
  pub points : van.points ≡ car.points
  pub n : (k : ℕ) → k < car.points → at van.n k ≡ at car.n k
  pub p : (k : ℕ) → k < car.points → at van.p k ≡ at car.p k
  pub m : (k : ℕ) → k < car.points → at van.m k ≡ at car.m k

-- a gear, or a byte of a card, d higher; 0 stays 0
unfoldable pub up : ℕ → ℕ → ℕ
up d g = if eqb g 0 then 0 else g + d

-- a van without its crawler: a car whose gears are the van's, each one lower
unfoldable pub without_crawler : Vehicle → Vehicle
without_crawler van = record {
  ng = van.ng - 1;
  ratio = drop 1 van.ratio;
  idle = van.idle;
  rated = van.rated;
  nmax = van.nmax;
  f0 = van.f0;
  f1 = van.f1;
  f2 = van.f2;
  tm = van.tm;
  margin = van.margin;
  points = van.points;
  n = van.n;
  p = van.p;
  m = van.m;
  profile = 0;
}

-- ---- refused for want of a gear

-- what a moving second is in its trip
unfoldable pub role_at : Vehicle → List ℕ → List ℕ → ℕ → Role
role_at car vs hs i = role_of car (eqb i (start vs i)) (closing (drop i vs)) (first_at car vs hs (i - 1))

-- gear g turns the engine inside its limits at road speed v: from its minimum there, which the lowest gear has not, to nmax
pub record Turns (car : Vehicle) (here : Role) (v g : ℕ) : Type 0 where
  pub from : g ≢ low car → 1000 * minimum car here g ≤ engine car g v
  pub to : engine car g v ≤ 1000 * car.nmax

-- a gear that is allowed at second i: one of the vehicle's; at the first second of a trip the lowest
pub record Allowed (car : Vehicle) (vs : List ℕ) (i g : ℕ) : Type 0 where
  pub from : low car ≤ g
  pub to : g ≤ car.ng
  pub at_first : i ≡ start vs i → g ≡ low car

-- a moving second without a hold at which no gear allowed there turns the engine inside its limits
pub record Wanting (car : Vehicle) (vs hs : List ℕ) (i : ℕ) : Type 0 where
  pub moves : moving (at vs i) ≡ true
  pub no_hold : at hs i ≡ 0
  pub no_gear_there : (g : ℕ) → Allowed car vs i g → Turns car (role_at car vs hs i) (at vs i) g → ⊥

-- the trace passes checks 1 to 9
pub record PassesOthers (car : Vehicle) (vs hs old : List ℕ) : Type 0 where
  pub one : trace_fault vs ≡ none
  pub two : room_fault vs hs old ≡ none
  pub three : vehicle_fault car ≡ none
  pub four_to_nine : seconds_fault car vs hs 0 (length vs) ≡ none
