-- What the rows of the table are about: car Z and its kin, their traces and jobs, and what is said of them.
use Rattle.rules.proofs.Base.{ℕ, List, [], ◌∷◌, ◌++◌, ℤ, pos, ◌-◌, replicate, take, length, get_or, Vehicle, Role, Summary, Closing}
use Rattle.rules.proofs.Base.{AfterLow, Inner, Answer}
use Rattle.rules.specs.Words.{table}
use Rattle.rules.specs.Gears.{minimum, choose}
use Rattle.rules.specs.Corrections.{first_at}
use Rattle.rules.specs.Refusals.{told}
use Rattle.rules.specs.Job.{profile, job_read, job_of}
use Rattle.rules.specs.Summary.{summary}
use Rattle.rules.specs.declared.GearFacts.{GearFacts}
use Rattle.rules.specs.Why.{no_facts, why}
use Rattle.rules.proofs.Cases.Rows.{Value, numbers, refused_by}

-- car Z, with its profile, gears and ratios, its margins, its idle and rated speeds and its F0
unfoldable pub vehicle_with : ℕ → ℕ → List ℕ → ℕ → List ℕ → ℕ → ℕ → ℕ → Vehicle
vehicle_with profile ng ratio margin margins idle rated f0 = record {
  ng = ng;
  ratio = ratio;
  idle = idle;
  rated = rated;
  nmax = 6000;
  f0 = f0;
  f1 = pos 0;
  f2 = 4000;
  tm = 1500;
  margin = margin;
  points = 7;
  n = 800 ∷ 1800 ∷ 2800 ∷ 3800 ∷ 4800 ∷ 5600 ∷ 6000 ∷ [];
  p = 100 ∷ 300 ∷ 500 ∷ 700 ∷ 850 ∷ 900 ∷ 880 ∷ [];
  profile = profile;
  m = margins;
}

-- with its first ratio
unfoldable pub five_gears : ℕ → List ℕ
five_gears ratio = ratio ∷ 7000 ∷ 4500 ∷ 3500 ∷ 2800 ∷ 0 ∷ 0 ∷ 0 ∷ 0 ∷ 0 ∷ []

-- with no margin at a point
unfoldable pub car_with : ℕ → ℕ → ℕ → ℕ → Vehicle
car_with ratio = vehicle_with 0 5 (five_gears ratio) 10 (replicate 64 0)

unfoldable pub car_of : ℕ → ℕ → ℕ → Vehicle
car_of = car_with 12000

unfoldable pub car_Z : ℕ → Vehicle
car_Z = car_of 800 5600

unfoldable pub Z : Vehicle
Z = car_Z 1000

-- nine tenths of its idle speed are 742.5, idle and an eighth of the way to its rated speed 1,400.5
unfoldable pub halves : Vehicle
halves = car_of 825 5429 1000

-- 1.15 times its idle speed are 931.5
unfoldable pub halves_after : Vehicle
halves_after = car_of 810 5600 1000

-- from V 121 on gear 1 turns past nmax, and up to V 131 gear 2 turns below 1.15 times idle
unfoldable pub gap : Vehicle
gap = car_with 50000 800 5600 1000

-- below car Z's gears a crawler, in a van of this profile and ng, with the ratios of its two lowest gears
unfoldable pub van_with : ℕ → ℕ → ℕ → ℕ → Vehicle
van_with profile ng crawler ratio = vehicle_with profile ng (crawler ∷ ratio ∷ 7000 ∷ 4500 ∷ 3500 ∷ 2800 ∷ 0 ∷ 0 ∷ 0 ∷ 0 ∷ []) 10 (replicate 64 0) 800 5600 1000

unfoldable pub van : Vehicle
van = van_with 1 6 20000 12000

-- the gap, above a crawler
unfoldable pub gap_van : Vehicle
gap_van = van_with 1 6 50000 49000

-- car Z with M and a margin at each point
unfoldable pub margins_Z : ℕ → List ℕ → Vehicle
margins_Z margin margins = vehicle_with 0 5 (five_gears 12000) margin margins 800 5600 1000

-- a second that is not its trip's first, not in the closing run and not after gear 1
unfoldable pub inside : Role
inside = Inner

-- no holds
unfoldable pub free_trip : List ℕ
free_trip = replicate 7 0

-- floor 1: a steady speed, and speeds rising throughout
unfoldable pub steady : List ℕ
steady = replicate 4 100

unfoldable pub up : List ℕ
up = 100 ∷ 110 ∷ 120 ∷ 130 ∷ 140 ∷ 150 ∷ 160 ∷ 170 ∷ []

-- speeds 0, 50, 150, 100, 0
unfoldable pub trace : List ℕ
trace = 0 ∷ 50 ∷ 150 ∷ 100 ∷ 0 ∷ []

-- the same with second 2 at rest: two trips
unfoldable pub split : List ℕ
split = 0 ∷ 50 ∷ 0 ∷ 100 ∷ 0 ∷ []

-- a short trip, then a longer one whose first choices are corrected
unfoldable pub two_trips : List ℕ
two_trips = 0 ∷ 50 ∷ 0 ∷ 150 ∷ 300 ∷ 450 ∷ 600 ∷ 450 ∷ 300 ∷ 150 ∷ 0 ∷ []

-- steady after a dip at second 3; and the same with the end of the dip in the closing run
unfoldable pub dip : List ℕ
dip = 0 ∷ 100 ∷ 140 ∷ 115 ∷ 125 ∷ 125 ∷ 0 ∷ []

unfoldable pub dip_closing : List ℕ
dip_closing = 0 ∷ 100 ∷ 140 ∷ 115 ∷ 125 ∷ 0 ∷ []

-- steady after a slow start
unfoldable pub slow_start : List ℕ
slow_start = 0 ∷ 100 ∷ 118 ∷ 125 ∷ 125 ∷ 0 ∷ []

-- car Z and these speeds, without holds, as a job
unfoldable pub job_Z : List ℕ
job_Z =
    1 ∷ 5 ∷ 224 ∷ 93 ∷ 216 ∷ 54 ∷ 148 ∷ 35 ∷ 172 ∷ 27 ∷ 240 ∷ 21 ∷ 160 ∷ 6 ∷ 224 ∷ 43 ∷ 240 ∷ 46 ∷ 232 ∷ 7 ∷ 136 ∷ 39 ∷ 160 ∷ 31 ∷ 220 ∷ 11 ∷ 10 ∷
    7 ∷ 160 ∷ 6 ∷ 100 ∷ 136 ∷ 14 ∷ 172 ∷ 2 ∷ 240 ∷ 21 ∷ 244 ∷ 3 ∷ 216 ∷ 29 ∷ 188 ∷ 5 ∷ 192 ∷ 37 ∷ 210 ∷ 6 ∷ 224 ∷ 43 ∷ 132 ∷ 7 ∷ 240 ∷ 46 ∷ 240 ∷ 6 ∷
    5 ∷ 0 ∷ 50 ∷ 150 ∷ 1 ∷ 100 ∷ 0 ∷ 0 ∷ []

-- its first bytes, with another sample count and nothing after it
unfoldable pub counting : List ℕ → List ℕ
counting count = take 55 job_Z ++ count

-- "refused 1 at 0" and a line's end
unfoldable pub too_long : List ℕ
too_long = 114 ∷ 101 ∷ 102 ∷ 117 ∷ 115 ∷ 101 ∷ 100 ∷ 32 ∷ 49 ∷ 32 ∷ 97 ∷ 116 ∷ 32 ∷ 48 ∷ 10 ∷ []

-- the first choice of car Z inside a trip
unfoldable pub choice : ℕ → ℤ → Value
choice v d = numbers (choose Z inside v d ∷ [])

-- the gear above the lowest at the three places
unfoldable pub next_minimums : Vehicle → Value
next_minimums car = numbers (minimum car Inner 2 ∷ minimum car Closing 2 ∷ minimum car AfterLow 2 ∷ [])

-- the first choices of the moving seconds 1 to n
unfoldable pub firsts_of : Vehicle → List ℕ → List ℕ → ℕ → Value
firsts_of car vs hs n = numbers (table (first_at car vs hs) 1 n)

-- refused for want of a gear
unfoldable pub no_gear_at : ℕ → Value
no_gear_at = refused_by 10

-- a job's version, and the margins of its first eight places
unfoldable pub margins_read : List ℕ → List ℕ
margins_read bytes = let j = job_of (job_read bytes 9 9) in j.version ∷ take 8 j.vehicle.m

-- a summary as it is printed: standing seconds, seconds in the gears 1 to 10, gear changes
unfoldable pub counted_as : Summary → Value
counted_as m = numbers (m.standing ∷ (m.gears ++ (m.changes ∷ [])))

-- that of car Z's card, and of the card with gear 3 held at second 2
unfoldable pub of_Z : Summary
of_Z = summary trace (17 ∷ 1 ∷ 2 ∷ 18 ∷ 0 ∷ [])

unfoldable pub of_held : Summary
of_held = summary trace (17 ∷ 1 ∷ 19 ∷ 18 ∷ 0 ∷ [])

-- what is said of gear g of car Z at second s, without holds
unfoldable pub said_of_gear : List ℕ → ℕ → ℕ → GearFacts
said_of_gear vs s g = get_or (why Z vs (replicate (length vs) 0) s).gears (g - 1) no_facts

-- its minimum speed, the rule of that, and X
unfoldable pub minimum-said : List ℕ → ℕ → ℕ → Value
minimum-said vs s g = let f = said_of_gear vs s g in numbers (f.minimum ∷ f.rule ∷ f.engine ∷ [])

-- every count at one number
unfoldable pub all_at : ℕ → Summary
all_at n = record { standing = n; gears = replicate 10 n; changes = n }

-- two trips, each with first choices that are corrected
abbrev pub twice_corrected : List ℕ
twice_corrected = 0 ∷ 150 ∷ 300 ∷ 450 ∷ 600 ∷ 450 ∷ 300 ∷ 150 ∷ 0 ∷ 150 ∷ 300 ∷ 450 ∷ 600 ∷ 450 ∷ 300 ∷ 150 ∷ 0 ∷ []

-- answers as they are told, by number and place
unfoldable pub told_all : List Answer → List ℕ
told_all [] = []
told_all (a ∷ more) = (told a).no ∷ (told a).spot ∷ told_all more

-- car Z with something at a place past its gears
unfoldable pub past-gears : Vehicle
past-gears = vehicle_with 0 5 (12000 ∷ 7000 ∷ 4500 ∷ 3500 ∷ 2800 ∷ 9 ∷ 0 ∷ 0 ∷ 0 ∷ 0 ∷ []) 10 (replicate 64 0) 800 5600 1000

-- car Z with a second gear that has at V 500 the power of its first
unfoldable pub tied : Vehicle
tied = vehicle_with 0 5 (12000 ∷ 10560 ∷ 4500 ∷ 3500 ∷ 2800 ∷ 0 ∷ 0 ∷ 0 ∷ 0 ∷ 0 ∷ []) 10 (replicate 64 0) 800 5600 1000
