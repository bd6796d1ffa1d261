-- Numbers of refusal: whatever the definitions refuse, they refuse by number and place of a row of the table, and no row has number 0.
use Rattle.rules.proofs.Base.{ℕ, arith, ◌≡◌, refl, ap, ◌∙◌, ◌≢◌, Bool, true, false, Option, none, some, List, [], ◌∷◌, Vehicle, Refusal, TraceLength}
use Rattle.rules.proofs.Base.{RoomLength, VehicleField, OutsideTrace, SpeedOver, StepOver, EndMoving, HoldNotDriven, HoldStanding, HoldOverRev, NoGear}
use Rattle.rules.proofs.Base.{JobEndsEarly, BadGroup, BadVersion, BadHold, BytesAfter, RoomShort, BadPart, BadKind, NotFinite, OutOfBounds, KindMissing}
use Rattle.rules.proofs.Base.{BadFactor, Answer, Ok, Err, Edit}
use Rattle.rules.specs.Refusals.{Fault, fault, numbered, said, refuse_at, ◌orelse◌, when, trace_fault, room_fault, vehicle_fault, Check, speed, step}
use Rattle.rules.specs.Refusals.{ends, over-ng, at_rest, over-rev, no-gear, check_number, fault_of, seconds_fault, span_fault, work_fault}
use Rattle.rules.specs.Edit.{Screen, asked_fault, edit_fault}
use Rattle.rules.specs.Summary.{summary_fault}
use Rattle.rules.specs.Write.{checks_fault, write_fault}

-- ---- rows

-- an answer that says so: nothing is refused, or by a row of the table
pub record Told (q : Option Fault) : Type 0 where
  pub answer : Answer
  pub says : said answer ≡ q

-- a row of this number, with this place
abbrev pub TableRow : ℕ → ℕ → Type 0
TableRow n place = (r : Refusal) × (fault r ≡ numbered n place)

-- no row has number 0
from_1 : (r : Refusal) → (fault r).no ≢ 0
from_1 TraceLength e = absurd (omega arith)
from_1 RoomLength e = absurd (omega arith)
from_1 (VehicleField f) e = absurd (omega arith)
from_1 (OutsideTrace s) e = absurd (omega arith)
from_1 (SpeedOver s) e = absurd (omega arith)
from_1 (StepOver s) e = absurd (omega arith)
from_1 (EndMoving s) e = absurd (omega arith)
from_1 (HoldNotDriven s) e = absurd (omega arith)
from_1 (HoldStanding s) e = absurd (omega arith)
from_1 (HoldOverRev s) e = absurd (omega arith)
from_1 (NoGear s) e = absurd (omega arith)
from_1 (JobEndsEarly n) e = absurd (omega arith)
from_1 (BadGroup b) e = absurd (omega arith)
from_1 BadVersion e = absurd (omega arith)
from_1 (BadHold b) e = absurd (omega arith)
from_1 (BytesAfter b) e = absurd (omega arith)
from_1 (RoomShort n) e = absurd (omega arith)
from_1 BadPart e = absurd (omega arith)
from_1 (BadKind b) e = absurd (omega arith)
from_1 (NotFinite b) e = absurd (omega arith)
from_1 (OutOfBounds b) e = absurd (omega arith)
from_1 (KindMissing b) e = absurd (omega arith)
from_1 BadFactor e = absurd (omega arith)

said_from_1 : (a : Answer) {f : Fault} → said a ≡ some f → f.no ≢ 0
unfolding said
said_from_1 (Ok x) e n = let z : ◌≡◌ {A = ℕ} 0 1 = cc in absurd (omega arith)
said_from_1 (Err r) {f} e n = let h : fault r ≡ f = cc in from_1 r (ap (λ (x : Fault). x.no) h ∙ n)

pub told_from_1 : {f : Fault} → Told (some f) → f.no ≢ 0
told_from_1 t = said_from_1 t.answer t.says

-- ---- refusals of the checks

pub told_none : Told none
unfolding said
told_none = record { answer = Ok tt; says = refl }

pub told-row : {n place : ℕ} → TableRow n place → Told (some (numbered n place))
unfolding said
told-row r = record { answer = Err r.0; says = ap some r.1 }

-- a check that finds a place, and one whose place is known
pub told_at : (n : ℕ) → ((i : ℕ) → TableRow n i) → (o : Option ℕ) → Told (refuse_at n o)
unfolding refuse_at
told_at n row none = told_none
told_at n row (some i) = told-row (row i)

pub told-when : (n i : ℕ) → TableRow n i → (t : Bool) → Told (refuse_at n (when t i))
unfolding refuse_at when
told-when n i row true = told-row row
told-when n i row false = told_none

pub told_or : (a b : Option Fault) → Told a → Told b → Told (a orelse b)
unfolding ◌orelse◌
told_or none b p q = q
told_or (some f) b p q = p

check_row : (c : Check) (i : ℕ) → TableRow (check_number c) i
unfolding check_number
check_row speed i = (SpeedOver i, refl)
check_row step i = (StepOver i, refl)
check_row ends i = (EndMoving i, refl)
check_row over-ng i = (HoldNotDriven i, refl)
check_row at_rest i = (HoldStanding i, refl)
check_row over-rev i = (HoldOverRev i, refl)
check_row no-gear i = (NoGear i, refl)

pub told-checks : (fails : Check → ℕ → Bool) (lo hi : ℕ) (cs : List Check) → Told (fault_of fails lo hi cs)
unfolding fault_of
told-checks fails lo hi [] = told_none
told-checks fails lo hi (c ∷ cs) = told_or _ _ (told_at _ (check_row c) _) (told-checks fails lo hi cs)

pub trace-told : (vs : List ℕ) → Told (trace_fault vs)
unfolding trace_fault
trace-told vs = told-when 1 0 (TraceLength, refl) _

pub room_told : (vs hs old : List ℕ) → Told (room_fault vs hs old)
unfolding room_fault
room_told vs hs old = told-when 2 0 (RoomLength, refl) _

vehicle-told : (car : Vehicle) → Told (vehicle_fault car)
unfolding vehicle_fault
vehicle-told car = told_at 3 (λ f. (VehicleField f, refl)) _

-- ---- the working, the summary, the edits, the writer

pub work-told : (car : Vehicle) (vs hs old : List ℕ) → Told (work_fault car vs hs old)
unfolding work_fault span_fault
work-told car vs hs old = told_or _ _ (trace-told vs) (told_or _ _ (room_told vs hs old) (told_or _ _ (vehicle-told car) (told-checks _ _ _ _)))

pub summary_told : (vs bs : List ℕ) → Told (summary_fault vs bs)
unfolding summary_fault
summary_told vs bs = told_or _ _ (trace-told vs) (room_told vs bs bs)

pub edit_told : (car : Vehicle) (e : Edit) (x : Screen) → Told (edit_fault car e x)
unfolding edit_fault asked_fault
edit_told car e x =
    told_or _ _ (trace-told x.speeds) (told_or _ _ (room_told x.speeds x.holds x.card) (told_or _ _ (vehicle-told car)
    (told_or _ _ (told_at 11 (λ s. (OutsideTrace s, refl)) _) (told-checks _ _ _ _))))

pub write-told : (v : ℕ) (car : Vehicle) (vs hs room : List ℕ) → Told (write_fault v car vs hs room)
unfolding write_fault checks_fault seconds_fault
write-told v car vs hs room =
    told_or _ _
    (told_or _ _ (told-when 14 0 (BadVersion, refl) _) (told_or _ _ (trace-told vs) (told_or _ _ (room_told vs hs hs)
    (told_or _ _ (told_at 3 (λ f. (VehicleField f, refl)) _) (told-checks _ _ _ _)))))
    (told_at 17 (λ n. (RoomShort n, refl)) _)
