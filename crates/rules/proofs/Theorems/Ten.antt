-- Request Ten: "Old jobs read unchanged, and jobs written before are the same bytes". The definitions that speak of the longest trace, once more for any
-- longest trace: with `longest` they are the definitions themselves, with 2,048 those before the request. Of at most 2,048 seconds both say the same, and of
-- more those before refuse by 1.
use Rattle.rules.proofs.Base.{ℕ, ◌≤◌, ◌<◌, arith, ◌≡◌, refl, ap, true, not, Option, some, List, length, leb, ltb, eqb, le-leb, lt-leb, Vehicle, Edit}
use Rattle.rules.specs.Words.{◌and◌, within}
use Rattle.rules.specs.Units.{longest, newest, bounds, first_failed}
use Rattle.rules.specs.Corrections.{card}
use Rattle.rules.specs.Refusals.{Fault, refuse_at, ◌orelse◌, when, trace_fault, room_fault, vehicle_fault, seconds_fault, span_fault, work_fault, left}
use Rattle.rules.specs.Refusals.{work_card}
use Rattle.rules.specs.Edit.{Screen, second, asked_fault, edit_fault, asked_screen, edited}
use Rattle.rules.specs.Groups.{Read, got, refused, Reader, hand_on, demand, group}
use Rattle.rules.specs.Forms.{Form, value, checked, bounded, ◌then◌, seen, many, counted, to_the_end}
use Rattle.rules.specs.Job.{version, vehicle, seconds, trace, holds, Job, Fields, packed, fields, stages, job, job_read, filled}
use Rattle.rules.specs.Write.{job_bytes, checks_fault, write_fault, write_room}

-- ---- the definitions that speak of the longest trace, for any longest trace

module _ (most : ℕ) where
  abbrev pub trace_fault_of : List ℕ → Option Fault
  trace_fault_of vs = refuse_at 1 (when (not (within 1 most (length vs))) 0)

  -- the working, and an edit
  abbrev pub work_fault_of : Vehicle → List ℕ → List ℕ → List ℕ → Option Fault
  work_fault_of car vs hs old = trace_fault_of vs orelse room_fault vs hs old orelse vehicle_fault car orelse span_fault car vs hs 0 (length vs)

  abbrev pub work_card_of : Vehicle → List ℕ → List ℕ → List ℕ → List ℕ
  work_card_of car vs hs old = left (work_fault_of car vs hs old) old (card car vs hs)

  abbrev pub edit_fault_of : Vehicle → Edit → Screen → Option Fault
  edit_fault_of car e x =
      trace_fault_of x.speeds orelse room_fault x.speeds x.holds x.card orelse vehicle_fault car
      orelse refuse_at 11 (when (not (ltb (second e) (length x.speeds))) (second e)) orelse asked_fault car e x.speeds x.holds

  abbrev pub edited_of : Vehicle → Edit → Screen → Screen
  edited_of car e x = left (edit_fault_of car e x) x (asked_screen car e x)

  -- the reader: the sample count
  abbrev pub seconds_of : ℕ → ℕ → Form ℕ
  seconds_of speeds-room holds-room = checked (bounded 1 most 1 0) (λ n. leb n speeds-room and leb n holds-room) 2 (λ first. 0)

  abbrev pub trace_of : ℕ → ℕ → Form (List ℕ)
  trace_of speeds-room holds-room = counted (seconds_of speeds-room holds-room) (many value)

  abbrev pub stages_of : ℕ → ℕ → Form Fields
  stages_of speeds-room holds-room = version then λ v. vehicle v then λ car. trace_of speeds-room holds-room then λ vs. holds (length vs)

  abbrev pub job-form_of : ℕ → ℕ → Form Job
  job-form_of speeds-room holds-room = seen packed fields (stages_of speeds-room holds-room)

  abbrev pub job_read_of : List ℕ → ℕ → ℕ → Read Job
  job_read_of bytes speeds-room holds-room = to_the_end (job-form_of speeds-room holds-room) bytes

  -- the writer
  abbrev pub job_bytes_of : ℕ → Vehicle → List ℕ → List ℕ → List ℕ
  job_bytes_of v car vs hs = (job-form_of 0 0).write (record { version = v; vehicle = car; speeds = vs; holds = hs })

  abbrev pub write_fault_of : ℕ → Vehicle → List ℕ → List ℕ → List ℕ → Option Fault
  write_fault_of v car vs hs room =
      let needed = length (job_bytes_of v car vs hs) in
      (refuse_at 14 (when (not (within 1 newest v)) 0) orelse trace_fault_of vs orelse room_fault vs hs hs orelse refuse_at 3 (first_failed 1 (bounds v car))
      orelse seconds_fault car vs hs 0 (length vs))
      orelse refuse_at 17 (when (ltb (length room) needed) needed)

  abbrev pub write_room_of : ℕ → Vehicle → List ℕ → List ℕ → List ℕ → List ℕ
  write_room_of v car vs hs room = left (write_fault_of v car vs hs room) room (filled room (job_bytes_of v car vs hs))

-- with `longest` they are the definitions
pub ten_now_worked : (car : Vehicle) (vs hs old : List ℕ) → (work_fault_of longest car vs hs old ≡ work_fault car vs hs old)
    × (work_card_of longest car vs hs old ≡ work_card car vs hs old)
unfolding work_fault work_card trace_fault
ten_now_worked car vs hs old = (refl, refl)

pub ten_now_edited : (car : Vehicle) (e : Edit) (x : Screen)
    → (edit_fault_of longest car e x ≡ edit_fault car e x) × (edited_of longest car e x ≡ edited car e x)
unfolding edit_fault edited trace_fault
ten_now_edited car e x = (refl, refl)

pub ten_now_read : (bytes : List ℕ) (a b : ℕ) → job_read_of longest bytes a b ≡ job_read bytes a b
unfolding job_read job stages trace seconds
ten_now_read bytes a b = refl

pub ten_now_written : (v : ℕ) (car : Vehicle) (vs hs room : List ℕ)
    → (write_fault_of longest v car vs hs room ≡ write_fault v car vs hs room) × (write_room_of longest v car vs hs room ≡ write_room v car vs hs room)
unfolding write_fault write_room checks_fault job_bytes job stages trace seconds trace_fault
ten_now_written v car vs hs room = (refl, refl)

-- ---- before: 2,048 seconds

abbrev pub before : ℕ
before = 2048

same_trace : (vs : List ℕ) → length vs ≤ before → trace_fault_of before vs ≡ trace_fault_of longest vs
unfolding within longest
same_trace vs h = rw (le-leb (length vs) 2048 h, le-leb (length vs) 16384 (omega arith))

over-trace : (vs : List ℕ) → before < length vs → trace_fault_of before vs ≡ some (record { no = 1; spot = 0 })
unfolding within ◌and◌ when refuse_at
over-trace vs h = rw (le-leb 1 (length vs) (omega arith), lt-leb (length vs) 2048 h)

-- ---- at most 2,048 seconds: worked, edited and written as before

pub ten_worked : (car : Vehicle) (vs hs old : List ℕ) → length vs ≤ before
    → (work_fault_of before car vs hs old ≡ work_fault car vs hs old) × (work_card_of before car vs hs old ≡ work_card car vs hs old)
unfolding work_fault work_card trace_fault
ten_worked car vs hs old h = (rw (same_trace vs h), rw (same_trace vs h))

pub ten_edited : (car : Vehicle) (e : Edit) (x : Screen) → length x.speeds ≤ before
    → (edit_fault_of before car e x ≡ edit_fault car e x) × (edited_of before car e x ≡ edited car e x)
unfolding edit_fault edited trace_fault
ten_edited car e x h = (rw (same_trace x.speeds h), rw (same_trace x.speeds h))

pub ten_written : (v : ℕ) (car : Vehicle) (vs hs room : List ℕ) → length vs ≤ before
    → (write_fault_of before v car vs hs room ≡ write_fault v car vs hs room) × (write_room_of before v car vs hs room ≡ write_room v car vs hs room)
unfolding write_fault write_room checks_fault job_bytes job stages ◌then◌ trace counted seen seconds checked bounded trace_fault
ten_written v car vs hs room h = (rw (same_trace vs h), rw (same_trace vs h))

-- ---- and read as before, where the sample count that is met is at most 2,048; a fault before it is the same too

alike : {A B : Type 0} (m : Read A) (f g : A → Reader B) → ((a : A) (j : ℕ) → m ≡ got a j → f a j ≡ g a j) → hand_on m f ≡ hand_on m g
unfolding hand_on
alike (got a j) f g h = h a j refl
alike (refused x) f g h = refl

same_count : (bytes : List ℕ) (a b j : ℕ) → ((n k : ℕ) → group bytes j ≡ got n k → n ≤ before)
    → (seconds_of before a b).read bytes j ≡ (seconds_of longest a b).read bytes j
unfolding checked bounded value within longest hand_on
same_count bytes a b j small =
    ap (λ (m : Read ℕ). hand_on m (λ n k. hand_on (demand (leb n a and leb n b) 2 0 k) (λ t l. got n l)))
    (alike (group bytes j) _ _ (λ n k e. rw (le-leb n 2048 (small n k e), le-leb n 16384 (omega (arith, small n k e)))))

pub ten_read : (bytes : List ℕ) (a b : ℕ)
    → ((v i : ℕ) (car : Vehicle) (j n k : ℕ) → version.read bytes 0 ≡ got v i → (vehicle v).read bytes i ≡ got car j → group bytes j ≡ got n k → n ≤ before)
    → job_read_of before bytes a b ≡ job_read bytes a b
unfolding job_read to_the_end job seen stages ◌then◌ trace counted seconds hand_on
ten_read bytes a b small =
    ap (λ (m : Read Fields). hand_on (hand_on m (λ x j. got (packed x) j)) (λ x j. hand_on (demand (eqb j (length bytes)) 16 j j) (λ t k. got x k)))
    (alike (version.read bytes 0) _ _ (λ v i e. ap (λ (m : Read (Vehicle × (List ℕ × List ℕ))). hand_on m (λ x j. got (v, x) j))
    (alike ((vehicle v).read bytes i) _ _ (λ car j f. rw (same_count bytes a b j (λ n k g. small v i car j n k e f g))))))

-- ---- over 2,048 seconds: before, refused by 1

pub ten_not_worked : (car : Vehicle) (vs hs old : List ℕ) → before < length vs → work_fault_of before car vs hs old ≡ some (record { no = 1; spot = 0 })
unfolding ◌orelse◌
ten_not_worked car vs hs old h = rw (over-trace vs h)

pub ten_not-edited : (car : Vehicle) (e : Edit) (x : Screen) → before < length x.speeds → edit_fault_of before car e x ≡ some (record { no = 1; spot = 0 })
unfolding ◌orelse◌
ten_not-edited car e x h = rw (over-trace x.speeds h)

pub ten_not_written : (v : ℕ) (car : Vehicle) (vs hs room : List ℕ) → within 1 newest v ≡ true → before < length vs
    → write_fault_of before v car vs hs room ≡ some (record { no = 1; spot = 0 })
unfolding ◌orelse◌ when refuse_at
ten_not_written v car vs hs room t h = rw (t, over-trace vs h)

pub ten_not-read : (bytes : List ℕ) (a b : ℕ) {v i : ℕ} {car : Vehicle} {j n k : ℕ} → version.read bytes 0 ≡ got v i → (vehicle v).read bytes i ≡ got car j
    → group bytes j ≡ got n k
    → before < n → job_read_of before bytes a b ≡ refused (record { no = 1; spot = 0 })
unfolding to_the_end seen ◌then◌ counted checked bounded value hand_on demand within ◌and◌
ten_not-read bytes a b {n} e f g h = rw (e, f, g, le-leb 1 n (omega arith), lt-leb n 2048 h)

-- now, up to 16,384, the count is taken, in rooms that are long enough
pub ten_taken : (bytes : List ℕ) (a b j : ℕ) {n k : ℕ} → group bytes j ≡ got n k → 1 ≤ n → n ≤ 16384 → n ≤ a → n ≤ b → (seconds a b).read bytes j ≡ got n k
unfolding seconds checked bounded value hand_on demand within ◌and◌ longest
ten_taken bytes a b j {n} g l h x y = rw (g, le-leb 1 n l, le-leb n 16384 h, le-leb n a x, le-leb n b y)
