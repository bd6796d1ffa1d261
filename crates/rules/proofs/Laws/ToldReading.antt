-- Numbers of refusal: whatever the reader of a job refuses, it refuses by number and place of a row of the table.
use Rattle.rules.proofs.Base.{ℕ, zero, suc, ◌+◌, refl, Bool, true, false, not, List, [], ◌∷◌, length, leb, ltb, eqb, TraceLength, RoomLength}
use Rattle.rules.proofs.Base.{VehicleField, JobEndsEarly, BadGroup, BadVersion, BadHold, BytesAfter}
use Prim.{tt}
use Rattle.rules.specs.Words.{at}
use Rattle.rules.specs.Refusals.{numbered}
use Rattle.rules.specs.Groups.{Read, got, refused, Reader, hand_on, demand, early, group_if, group}
use Rattle.rules.specs.Forms.{Form, value, known, only_if, checked, bounded, ◌then◌, seen, row_read, row, many, counted, to_the_end}
use Rattle.rules.specs.Job.{version, profile, gearbox, numbers, point, curve, seconds, trace, one_hold, vehicle, holds, stages, job, job_read, read_fault}
use Rattle.rules.proofs.Laws.Words.{if_ind}
use Rattle.rules.proofs.Laws.Reading.{good}
use Rattle.rules.proofs.Laws.Told.{Told, TableRow, told_none, told-row}

-- ---- reading

-- what a reading refuses is so told
pub record ToldRead {A : Type 0} (m : Read A) : Type 0 where
  pub told : Told (read_fault m)

pub told_got : {A : Type 0} (a : A) (j : ℕ) → ToldRead (got a j)
unfolding read_fault
told_got a j = record { told = told_none }

pub told-refused : {A : Type 0} {n place : ℕ} → TableRow n place → ToldRead {A = A} (refused (numbered n place))
unfolding read_fault
told-refused r = record { told = told-row r }

pub told_then : {A B : Type 0} (m : Read A) (f : A → Reader B) → ToldRead m → ((a : A) (j : ℕ) → ToldRead (f a j)) → ToldRead (hand_on m f)
unfolding hand_on read_fault
told_then (got a j) f p q = q a j
told_then (refused x) f p q = record { told = p.told }

pub told-demand : (t : Bool) (n place i : ℕ) → TableRow n place → ToldRead (demand t n place i)
unfolding demand
told-demand true n place i r = told_got true i
told-demand false n place i r = told-refused r

-- a form of which every reading is so told
pub record Tells {A : Type 0} (part : Form A) : Type 0 where
  pub reads : (bytes : List ℕ) (i : ℕ) → ToldRead (part.read bytes i)

-- ---- each form keeps it

group-told : (bytes : List ℕ) (i : ℕ) → ToldRead (group bytes i)
unfolding group group_if early
group-told bytes i =
    let ended = told-refused {A = ℕ} (JobEndsEarly (length bytes), refl) in
    let bad = told-refused {A = ℕ} (BadGroup i, refl) in
    if_ind ToldRead (leb (length bytes) i) (λ _. ended) (λ _.
    if_ind ToldRead (ltb (at bytes i) 128) (λ _. told_got _ _) (λ _.
    if_ind ToldRead (leb (length bytes) (i + 1)) (λ _. ended) (λ _.
    if_ind ToldRead (ltb (at bytes (i + 1)) 128)
    (λ _. if_ind ToldRead (not (eqb (at bytes (i + 1)) 0)) (λ _. told_got _ _) (λ _. bad))
    (λ _. if_ind ToldRead (leb (length bytes) (i + 2)) (λ _. ended) (λ _. if_ind ToldRead (good bytes i) (λ _. told_got _ _) (λ _. bad))))))

value_tells : Tells value
unfolding value
value_tells = record { reads = group-told }

only_if_tells : {A : Type 0} (t : Bool) (a : A) {part : Form A} → Tells part → Tells (only_if t a part)
unfolding only_if known
only_if_tells true a p = p
only_if_tells false a p = record { reads = λ bytes i. told_got a i }

checked_tells : {A : Type 0} {part : Form A} → Tells part → (test : A → Bool) (n : ℕ) (spot : ℕ → ℕ) → ((i : ℕ) → TableRow n (spot i))
    → Tells (checked part test n spot)
unfolding checked hand_on
checked_tells p test n spot row = record {
  reads = λ bytes i. told_then _ _ (p.reads bytes i) (λ a j. told_then _ _ (told-demand (test a) n (spot i) j (row i)) (λ t k. told_got a k));
}

bounded_tells : (lo hi n place : ℕ) → TableRow n place → Tells (bounded lo hi n place)
unfolding bounded
bounded_tells lo hi n place row = checked_tells value_tells _ n _ (λ i. row)

then_tells : {A B : Type 0} {part : Form A} {next : A → Form B} → Tells part → ((a : A) → Tells (next a)) → Tells (part then next)
unfolding ◌then◌
then_tells p q = record { reads = λ bytes i. told_then _ _ (p.reads bytes i) (λ a j. told_then _ _ ((q a).reads bytes j) (λ b k. told_got (a, b) k)) }

seen_tells : {A B : Type 0} (to : A → B) (from : B → A) {part : Form A} → Tells part → Tells (seen to from part)
unfolding seen
seen_tells to from p = record { reads = λ bytes i. told_then _ _ (p.reads bytes i) (λ a j. told_got (to a) j) }

module _ {A S : Type 0} {part : S → Form A} (move : S → A → S) (p : (s : S) → Tells (part s)) where
  row_told : (k : ℕ) (s : S) (bytes : List ℕ) (i : ℕ) → ToldRead (row_read part move k s bytes i)
  unfolding row_read
  row_told zero s bytes i = told_got [] i
  row_told (suc k) s bytes i = told_then _ _ ((p s).reads bytes i) (λ a j. told_then _ _ (row_told k (move s a) bytes j) (λ l m. told_got (a ∷ l) m))

  row_tells : (s : S) (k : ℕ) → Tells (row part move s k)
  unfolding row
  row_tells s k = record { reads = row_told k s }

many_tells : {A : Type 0} {part : Form A} → Tells part → (k : ℕ) → Tells (many part k)
unfolding many
many_tells p k = row_tells _ (λ s. p) tt k

counted_tells : {A : Type 0} {count : Form ℕ} {parts : ℕ → Form (List A)} → Tells count → ((k : ℕ) → Tells (parts k)) → Tells (counted count parts)
unfolding counted
counted_tells c p = seen_tells _ _ (then_tells c p)

whole-told : {A : Type 0} {part : Form A} → Tells part → (bytes : List ℕ) → ToldRead (to_the_end part bytes)
unfolding to_the_end hand_on
whole-told p bytes = told_then _ _ (p.reads bytes 0) (λ a j. told_then _ _ (told-demand _ 16 j j (BytesAfter j, refl)) (λ t k. told_got a k))

-- ---- the job

profile_tells : (v : ℕ) → Tells (profile v)
unfolding profile
profile_tells v = only_if_tells _ 0 (bounded_tells 0 1 3 1 (VehicleField 1, refl))

point_tells : (v : ℕ) → Tells (point v)
unfolding point
point_tells v = then_tells value_tells (λ n. then_tells value_tells (λ p. only_if_tells _ 0 value_tells))

vehicle_tells : (v : ℕ) → Tells (vehicle v)
unfolding vehicle gearbox numbers curve
vehicle_tells v =
    seen_tells _ _ (then_tells (profile_tells v) (λ crawler.
    then_tells (counted_tells (bounded_tells _ _ 3 1 (VehicleField 1, refl)) (many_tells value_tells)) (λ ratios.
    then_tells (many_tells value_tells 8) (λ values.
    counted_tells (bounded_tells _ _ 3 11 (VehicleField 11, refl)) (many_tells (point_tells v))))))

trace_tells : (a b : ℕ) → Tells (trace a b)
unfolding trace seconds
trace_tells a b = counted_tells (checked_tells (bounded_tells _ _ 1 0 (TraceLength, refl)) _ 2 _ (λ i. (RoomLength, refl))) (many_tells value_tells)

hold_tells : (count next : ℕ) → Tells (one_hold count next)
unfolding one_hold
hold_tells count next =
    checked_tells (then_tells (checked_tells value_tells _ 15 _ (λ i. (BadHold i, refl))) (λ s. value_tells)) _ 15 _ (λ i. (BadHold i, refl))

holds_tells : (count : ℕ) → Tells (holds count)
unfolding holds
holds_tells count = seen_tells _ _ (counted_tells value_tells (row_tells _ (hold_tells count) 0))

-- what the reader refuses is a row of the table
pub job-told : (bytes : List ℕ) (a b : ℕ) → Told (read_fault (job_read bytes a b))
unfolding job_read job stages version
job-told bytes a b =
    (whole-told (seen_tells _ _ (then_tells (bounded_tells _ _ 14 0 (BadVersion, refl)) (λ v.
    then_tells (vehicle_tells v) (λ car. then_tells (trace_tells a b) (λ vs. holds_tells (length vs)))))) bytes).told
