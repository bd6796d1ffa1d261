-- What the checks of a span ask of their arguments and answer, and which checks look at a hold.
use Rattle.std.specs.Prelude.{ℕ, ◌≤◌, ◌<◌, List, [], ◌∷◌, leb, ltb, length, if◌then◌else◌}
use Rattle.rules.specs.Words.{Option, none, some}
use Rattle.rules.specs.declared.Vehicle.{Vehicle}
use Rattle.rules.specs.Refusals.{Fault, Check, over-ng, at_rest, over-rev, check_number, bad}

-- the number of the first of the checks 4 to 9 that fails at second i; 10, past the last of them, where none does
unfoldable pub fault_no : Vehicle → List ℕ → List ℕ → ℕ → ℕ → List Check → ℕ
fault_no car vs hs lo i [] = 10
fault_no car vs hs lo i (c ∷ cs) = if bad c car vs hs lo i then check_number c else fault_no car vs hs lo i cs

-- the refusal that a number and a place stand for: none from 10 on
unfoldable pub kept : ℕ → ℕ → Option Fault
kept n i = if ltb n 10 then some (record { no = n; spot = i }) else none

-- of two refusals the one with the lower number, the first on a tie
unfoldable pub lower : Option Fault → Option Fault → Option Fault
lower none r = r
lower (some f) none = some f
lower (some f) (some g) = if leb f.no g.no then some f else some g

-- 7 to 9, the checks that look at a hold
unfoldable pub hold_checks : List Check
hold_checks = over-ng ∷ at_rest ∷ over-rev ∷ []

-- a second of the trace, of a vehicle whose gears all have a place and whose rated speed is not below idle
pub record TraceSecond (car : Vehicle) (vs : List ℕ) (i : ℕ) : Type 0 where
  pub ng_to : car.ng ≤ 10
  pub rated_from : car.idle ≤ car.rated
  pub inside : i < length vs

-- a gear that a second is held in, of such a vehicle
pub record HeldGear (car : Vehicle) (held : ℕ) : Type 0 where
  pub ng_to : car.ng ≤ 10
  pub some : 1 ≤ held

-- a span of the trace, of a vehicle as above
pub record Spanned (car : Vehicle) (vs : List ℕ) (lo hi : ℕ) : Type 0 where
  pub ng_to : car.ng ≤ 10
  pub rated_from : car.idle ≤ car.rated
  pub order : lo ≤ hi
  pub inside : hi ≤ length vs
