-- Document 01, "Numbers of refusal": number and place of each, and those of the whole working.
use Rattle.std.specs.Prelude.{ℕ, suc, ◌+◌, ◌-◌, Bool, not, List, [], ◌∷◌, ◌++◌, length, ltb, eqb, if◌then◌else◌, Result, Ok, Err}
use Rattle.rules.specs.Words.{Option, none, some, ◌and◌, ◌or◌, within}
use Rattle.rules.specs.Words.{at, first}
use Rattle.rules.specs.declared.Vehicle.{Vehicle}
use Rattle.rules.specs.declared.Refusal.{Refusal}
use Rattle.rules.specs.declared.Refusal.TheVariants.{TraceLength, RoomLength, VehicleField, OutsideTrace, SpeedOver, StepOver, EndMoving, HoldNotDriven}
use Rattle.rules.specs.declared.Refusal.TheVariants.{HoldStanding, HoldOverRev, NoGear, JobEndsEarly, BadGroup, BadVersion, BadHold, BytesAfter}
use Rattle.rules.specs.declared.Refusal.TheVariants.{RoomShort, BadPart, BadKind, NotFinite, OutOfBounds, KindMissing, BadFactor}
use Rattle.rules.specs.Units.{bad_field, low, longest, fastest, steepest, moving}
use Rattle.rules.specs.Gears.{is_under_nmax}
use Rattle.rules.specs.Corrections.{first_at, card}

-- ---- a refusal as the table has it

-- a number and a place
pub record Fault : Type 0 where
  pub no : ℕ
  pub spot : ℕ

abbrev pub numbered : ℕ → ℕ → Fault
numbered n place = record { no = n; spot = place }

-- number and place of each case
abbrev pub fault : Refusal → Fault
fault TraceLength = numbered 1 0
fault RoomLength = numbered 2 0
fault (VehicleField f) = numbered 3 f
fault (OutsideTrace s) = numbered 11 s
fault (SpeedOver s) = numbered 4 s
fault (StepOver s) = numbered 5 s
fault (EndMoving s) = numbered 6 s
fault (HoldNotDriven s) = numbered 7 s
fault (HoldStanding s) = numbered 8 s
fault (HoldOverRev s) = numbered 9 s
fault (NoGear s) = numbered 10 s
fault (JobEndsEarly n) = numbered 12 n
fault (BadGroup b) = numbered 13 b
fault BadVersion = numbered 14 0
fault (BadHold b) = numbered 15 b
fault (BytesAfter b) = numbered 16 b
-- document 02, request One
fault (RoomShort n) = numbered 17 n
-- document 02, request Three
fault BadPart = numbered 18 0
-- document 02, request Five
fault (BadKind b) = numbered 19 b
fault (NotFinite b) = numbered 20 b
fault (OutOfBounds b) = numbered 21 b
fault (KindMissing b) = numbered 22 b
-- document 02, request Eleven
fault BadFactor = numbered 23 0

-- what a check answers: nothing, or the refusal
abbrev pub Answer : Type 0
Answer = Result (Unit {0}) Refusal

-- what an answer says: nothing, whatever it brings, or the refusal's number and place
unfoldable pub said : {A : Type 0} → Result A Refusal → Option Fault
said (Ok x) = none
said (Err r) = some (fault r)

-- the same as two numbers: 0 and 0 where nothing is refused
abbrev pub told : {A : Type 0} → Result A Refusal → Fault
told (Ok x) = numbered 0 0
told (Err r) = fault r

-- ---- checks in a row

-- a check: refused by its number at the place that it found
unfoldable pub refuse_at : ℕ → Option ℕ → Option Fault
refuse_at n none = none
refuse_at n (some i) = some (numbered n i)

infixr 20 ◌orelse◌
-- the first refusal of two
unfoldable pub ◌orelse◌ : Option Fault → Option Fault → Option Fault
none orelse r = r
some f orelse r = some f

-- a place, where the test holds
unfoldable pub when : Bool → ℕ → Option ℕ
when t i = if t then some i else none

-- ---- the table, 1 to 3

-- 1: trace empty or over the longest
unfoldable pub trace_fault : List ℕ → Option Fault
trace_fault vs = refuse_at 1 (when (not (within 1 longest (length vs))) 0)

-- 2: holds or card not as long as the trace
unfoldable pub room_fault : List ℕ → List ℕ → List ℕ → Option Fault
room_fault vs hs old = refuse_at 2 (when (not (eqb (length hs) (length vs) and eqb (length old) (length vs))) 0)

-- 3: a vehicle field out of bounds, first such
unfoldable pub vehicle_fault : Vehicle → Option Fault
vehicle_fault car = refuse_at 3 (bad_field car)

-- ---- the table, 4 to 10: the checks of a second

-- a hold, 0 for none, of a gear that is not driven: above ng, or below the lowest
unfoldable pub not_driven : Vehicle → ℕ → Bool
not_driven car h = ltb car.ng h or (ltb 0 h and ltb h (low car))

pub data Check : Type 0 where
  speed step ends over-ng at_rest over-rev no-gear : Check

unfoldable pub check_number : Check → ℕ
check_number speed = 4
check_number step = 5
check_number ends = 6
check_number over-ng = 7
check_number at_rest = 8
check_number over-rev = 9
check_number no-gear = 10

-- 4 to 9, in the table's order
unfoldable pub checks : List Check
checks = speed ∷ step ∷ ends ∷ over-ng ∷ at_rest ∷ over-rev ∷ []

-- and 10, which comes after them
unfoldable pub all_checks : List Check
all_checks = checks ++ (no-gear ∷ [])

-- the check fails at second i, of a span that begins at lo
unfoldable pub bad : Check → Vehicle → List ℕ → List ℕ → ℕ → ℕ → Bool
-- 4: speed over 2,000
bad speed car vs hs lo i = ltb fastest (at vs i)
-- 5: |step from the second before| over 150; checked where both its seconds are in the span
bad step car vs hs lo i = ltb lo i and (ltb (at vs (i - 1) + steepest) (at vs i) or ltb (at vs i + steepest) (at vs (i - 1)))
-- 6: first, then last, sample is moving
bad ends car vs hs lo i = moving (at vs i) and (eqb i 0 or eqb (suc i) (length vs))
-- 7: hold above ng, or below the lowest gear
bad over-ng car vs hs lo i = not_driven car (at hs i)
-- 8: hold at a standing second
bad at_rest car vs hs lo i = not (moving (at vs i)) and not (eqb (at hs i) 0)
-- 9: held gear's X over 1000 x nmax
bad over-rev car vs hs lo i = not (eqb (at hs i) 0) and not (is_under_nmax car (at vs i) (at hs i))
-- 10: no gear fits, no hold: the first choice is none
bad no-gear car vs hs lo i = moving (at vs i) and eqb (first_at car vs hs i) 0

-- checks in a row, each failing at a second or not, on the seconds from lo up to hi: for one number the lowest second wins
unfoldable pub fault_of : (Check → ℕ → Bool) → ℕ → ℕ → List Check → Option Fault
fault_of fails lo hi [] = none
fault_of fails lo hi (c ∷ cs) = refuse_at (check_number c) (first (fails c) lo (hi - lo)) orelse fault_of fails lo hi cs

-- 4 to 9 on the seconds from lo up to hi
unfoldable pub seconds_fault : Vehicle → List ℕ → List ℕ → ℕ → ℕ → Option Fault
seconds_fault car vs hs lo hi = fault_of (λ c. bad c car vs hs lo) lo hi checks

-- 4 to 10
unfoldable pub span_fault : Vehicle → List ℕ → List ℕ → ℕ → ℕ → Option Fault
span_fault car vs hs lo hi = fault_of (λ c. bad c car vs hs lo) lo hi all_checks

-- ---- the whole working

-- what the working refuses; the lent card `old` counts by its length
unfoldable pub work_fault : Vehicle → List ℕ → List ℕ → List ℕ → Option Fault
work_fault car vs hs old = trace_fault vs orelse room_fault vs hs old orelse vehicle_fault car orelse span_fault car vs hs 0 (length vs)

-- what is left, in a lent slice or of a summary: a refusal writes nothing at all
unfoldable pub left : {A : Type 0} → Option Fault → A → A → A
left none old new = new
left (some f) old new = old

-- the card that the working leaves
unfoldable pub work_card : Vehicle → List ℕ → List ℕ → List ℕ → List ℕ
work_card car vs hs old = left (work_fault car vs hs old) old (card car vs hs)
