-- What stands in the rooms at the end is what was read; a refusal leaves them as they were.
use Rattle.std.specs.Prelude.{Result, Ok, Err}
use Rattle.std.specs.Result.{result_map_both, result_unwrap_or}
use Rattle.rules.proofs.Offered.{ℕ, ◌≤◌, arith, ◌≡◌, sym, ◌∙◌, List, ◌++◌, length, take, drop, replicate, length-append, length-replicate, length-take-le}
use Rattle.rules.specs.Refusals.{Answer}
use Rattle.rules.proofs.Offered.{take-append_seam, true, some, Fault, fault, said, Read, got, refused, hand_on, value, many, put, Job, job_read, read_fault}
use Rattle.rules.proofs.Offered.{job_of, filled, value_sound, length-put, Even, job_even, job_room}
use Rattle.rules.specs.declared.Vehicle.{Vehicle}
use Rattle.rules.specs.declared.Refusal.{Refusal}
use Rattle.reading.specs.declared.Reading.{Reading}
use Rattle.reading.specs.Reader.{no_reading, reading, ReadAs}
use Rattle.reading.specs.Progress.{hold_row, used}
use Rattle.reading.proofs.Steps.{same_value, many-length, values, judged_comes}

-- ---- what fills the start of a room is what was judged

front : (room z vs : List ℕ) (count : ℕ) → z ≡ vs → length vs ≡ count → z ++ drop count room ≡ filled room vs
unfolding filled
front room z vs count e n = rw (e, n)

module _ (job room : List ℕ) (count : ℕ) (fits : count ≤ length room) {z : List ℕ} {r j : ℕ} where
  pub speeds_stand : (i : ℕ) → got z r ≡ (many value (length (take count room))).read job i → got true j ≡ used (λ vs. true) (many value count) job i
      → z ++ drop count room ≡ filled room (values ((many value count).read job i))
  speeds_stand i e s =
      let come = judged_comes (many value count) job i s in
      let same : got z r ≡ (many value count).read job i = rw (length-take-le count room fits) at e in
      front room z _ count (same_value (same ∙ sym come)) (many-length value_sound job count i (sym come))

  pub holds_stand : (k i : ℕ) → got z r ≡ used (λ hs. put hs (replicate (length (take count room)) 0)) (hold_row (length (take count room)) k) job i
      → got true j ≡ used (λ hs. true) (hold_row count k) job i
      → z ++ drop count room ≡ filled room (put (values ((hold_row count k).read job i)) (replicate count 0))
  unfolding used hand_on
  holds_stand k i e s =
      let come = judged_comes (hold_row count k) job i s in
      let same = rw (length-take-le count room fits, ← come) at e in
      front room z _ count (same_value same) (length-put _ (replicate count 0) ∙ length-replicate count 0)

-- ---- the reader's two ends

pub refused_as : (job speeds holds : List ℕ) {f : Refusal} → refused (fault f) ≡ job_read job (length speeds) (length holds)
    → ReadAs job speeds holds (Err f) speeds holds
unfolding reading said read_fault job_of filled
refused_as job speeds holds e =
    let r = sym e in
    record { answered = rw r; the_version = rw r; the_vehicle = rw r; the_count = rw r; speeds_left = rw r; holds_left = rw r }

pub filled_as : (job speeds holds : List ℕ) {v : ℕ} {car : Vehicle} {vs hs : List ℕ} {end : ℕ}
    → got (record { version = v; vehicle = car; speeds = vs; holds = hs }) end ≡ job_read job (length speeds) (length holds)
    → {count : ℕ} → length vs ≡ count → {speeds' holds' : List ℕ} → speeds' ≡ filled speeds vs → holds' ≡ filled holds hs
    → ReadAs job speeds holds (Ok (record { version = v; vehicle = car; count = count })) speeds' holds'
unfolding reading said read_fault job_of
filled_as job speeds holds e n s h =
    let r = sym e in
    record { answered = rw r; the_version = rw r; the_vehicle = rw r; the_count = rw r (sym n); speeds_left = rw r s; holds_left = rw r h }

refused_is : (m : Read Job) {q : Fault} → some q ≡ read_fault m → m ≡ refused q
unfolding read_fault
refused_is (got j end) e = let z : ◌≡◌ {A = ℕ} 0 1 = cc in absurd (omega arith)
refused_is (refused f) e = cc

-- an answer that brings nothing, and a reading beside it, that say what is read
pub beside_as : (job speeds holds : List ℕ) (a : Answer) (r : Reading) {speeds' holds' : List ℕ} → said a ≡ read_fault (reading job speeds holds)
    → r.version ≡ (job_of (reading job speeds holds)).version → r.vehicle ≡ (job_of (reading job speeds holds)).vehicle
    → r.count ≡ length (job_of (reading job speeds holds)).speeds → speeds' ≡ filled speeds (job_of (reading job speeds holds)).speeds
    → holds' ≡ filled holds (job_of (reading job speeds holds)).holds → ReadAs job speeds holds (result_map_both (λ x. r) (λ f. f) a) speeds' holds'
unfolding said job_of
beside_as job speeds holds (Ok x) r e v c n s h =
    record { answered = e; the_version = v; the_vehicle = c; the_count = n; speeds_left = s; holds_left = h }
beside_as job speeds holds (Err f) r e v c n s h =
    let m = refused_is (reading job speeds holds) e in
    record { answered = e; the_version = rw m; the_vehicle = rw m; the_count = rw m; speeds_left = s; holds_left = h }

-- ---- the rooms as the reader leaves them: their start is what was read

pub record Rooms (j : Job) (n room : ℕ) (speeds holds : List ℕ) : Type 0 where
  pub few : n ≤ room
  pub speeds_fit : n ≤ length speeds
  pub holds_fit : n ≤ length holds
  pub speeds_are : take n speeds ≡ j.speeds
  pub holds_are : take n holds ≡ j.holds

-- a room that was filled begins with what it was filled with
pub filled-start : (room values : List ℕ) (n : ℕ) → n ≡ length values → (n ≤ length (filled room values)) × (take n (filled room values) ≡ values)
unfolding filled
filled-start room values n e = (rw length-append (omega arith), rw e (take-append_seam values _))

pub rooms : {job s₀ h₀ s h : List ℕ} {r : Result Reading Refusal} → ReadAs job s₀ h₀ r s h
    → Rooms (job_of (reading job s₀ h₀)) (result_unwrap_or r no_reading).count (length s₀) s h
unfolding reading
rooms {job} {s₀} {h₀} {s} {h} {r} a =
    let count = (result_unwrap_or r no_reading).count in
    let z : Even (job_of (reading job s₀ h₀)) = job_even job (length s₀) (length h₀) in
    let v = filled-start s₀ (job_of (reading job s₀ h₀)).speeds count a.the_count in
    let w = filled-start h₀ (job_of (reading job s₀ h₀)).holds count (a.the_count ∙ sym z.even) in
    record {
      few = rw a.the_count (job_room job (length s₀) (length h₀));
      speeds_fit = rw a.speeds_left v.0;
      holds_fit = rw a.holds_left w.0;
      speeds_are = rw a.speeds_left v.1;
      holds_are = rw a.holds_left w.1;
    }
