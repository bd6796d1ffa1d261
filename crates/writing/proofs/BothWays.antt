-- Request One, over the contracts of the reader and of the writer themselves: demand 2 in both directions.
use Rattle.std.specs.Prelude.{Result, Ok, Err}
use Rattle.std.specs.Result.{result_unwrap_or}
use Rattle.rules.proofs.Offered.{ℕ, ◌≤◌, arith, ◌≡◌, refl, ap, ◌∙◌, none, List, length, take, said, Read, got, refused, Job, job_read, read_fault}
use Rattle.rules.proofs.Offered.{job_of, filled, Bytes, job_from, job_fault, cleared, job_bytes, write_fault, write_room, left_none}
use Rattle.rules.proofs.Theorems.Jobs.{written_reads_back, read_writes_back}
use Rattle.rules.specs.declared.Vehicle.{Vehicle}
use Rattle.rules.specs.declared.Refusal.{Refusal}
use Rattle.reading.specs.declared.Reading.{Reading}
use Rattle.reading.specs.Reader.{no_reading, reading, ReadAs}
use Rattle.reading.proofs.Rooms.{rooms, filled-start}
use Rattle.checks.proofs.Rows.{said_none}
use Rattle.writing.specs.Writing.{WriteAs}

-- where nothing is refused, a value comes
comes : {A : Type 0} (x : Result A Refusal) (a : A) → said x ≡ none → x ≡ Ok (result_unwrap_or x a)
unfolding said
comes (Ok x) a e = refl
comes (Err f) a e = let z : ◌≡◌ {A = ℕ} 0 1 = cc in absurd (omega arith)

-- bytes that were written: so many, at the start of the room
pub record SameBytes (bytes room : List ℕ) (w : Result ℕ Refusal) (room' : List ℕ) : Type 0 where
  pub written : w ≡ Ok (length bytes)
  pub start : room' ≡ filled room bytes

-- where nothing is refused, the job's bytes are
put_whole : {v : ℕ} {car : Vehicle} {vs hs room : List ℕ} {w : Result ℕ Refusal} {room' : List ℕ} → WriteAs v car vs hs room w room'
    → write_fault v car vs hs room ≡ none
    → SameBytes (job_bytes v car vs hs) room w room'
unfolding write_room
put_whole {w = w} a e = record { written = comes w 0 (a.answered ∙ e) ∙ ap Ok (a.the_length ∙ left_none _ _ e); start = a.room_left ∙ left_none _ _ e }

-- ---- what is written reads back as the same job

-- a job that was read: this version and vehicle, and these speeds and holds at the start of the rooms
pub record SameJob (v : ℕ) (car : Vehicle) (vs hs s₀ h₀ : List ℕ) (r : Result Reading Refusal) (s h : List ℕ) : Type 0 where
  pub read : r ≡ Ok (record { version = v; vehicle = cleared car; count = length vs })
  pub speeds : s ≡ filled s₀ vs
  pub holds : h ≡ filled h₀ hs

pub written_then_read : {v : ℕ} {car : Vehicle} {vs hs room : List ℕ} {w : Result ℕ Refusal} {room' : List ℕ} → WriteAs v car vs hs room w room'
    → {n : ℕ} → w ≡ Ok n
    → {s₀ h₀ s h : List ℕ} {r : Result Reading Refusal} → length vs ≤ length s₀ → length vs ≤ length h₀ → ReadAs (take n room') s₀ h₀ r s h
    → SameJob v car vs hs s₀ h₀ r s h
unfolding reading job_from read_fault job_of
written_then_read {v} {car} {vs} {hs} {room} {w} {room'} a {n} d {s₀} {h₀} {r = r} x y b =
    let ok = said_none a.answered d in
    let t = put_whole a ok in
    let long : n ≡ length (job_bytes v car vs hs) = ap (λ (z : Result ℕ Refusal). result_unwrap_or z 0) (rw d at t.written) in
    let start : take n room' ≡ job_bytes v car vs hs = rw t.start (filled-start room (job_bytes v car vs hs) n long).1 in
    let e = ap (λ (l : List ℕ). job_read l (length s₀) (length h₀)) start ∙ (written_reads_back v car vs hs room ok (length s₀) (length h₀) x y).1 in
    let version = b.the_version ∙ rw e in
    let vehicle = b.the_vehicle ∙ rw e in
    let count = b.the_count ∙ rw e in
    record {
      read = comes r no_reading (b.answered ∙ rw e) ∙ (λ i. Ok (record { version = version i; vehicle = vehicle i; count = count i }));
      speeds = b.speeds_left ∙ rw e;
      holds = b.holds_left ∙ rw e;
    }

-- ---- a job that the reader accepts and that passes checks 1 to 9 is written, in its own version, as the same bytes

-- it was read
was_read : (m : Read Job) → read_fault m ≡ none → (end : ℕ) × (m ≡ got (job_of m) end)
unfolding read_fault job_of
was_read (got j end) e = (end, refl)
was_read (refused f) e = let z : ◌≡◌ {A = ℕ} 0 1 = cc in absurd (omega arith)

pub read_then_written : {bytes s₀ h₀ s h : List ℕ} {r : Result Reading Refusal} → Bytes bytes → ReadAs bytes s₀ h₀ r s h → {j : Reading} → r ≡ Ok j
    → job_fault j.vehicle (take j.count s) (take j.count h) ≡ none
    → {room : List ℕ} {w : Result ℕ Refusal} {room' : List ℕ} → length bytes ≤ length room
    → WriteAs j.version j.vehicle (take j.count s) (take j.count h) room w room'
    → SameBytes bytes room w room'
unfolding reading
read_then_written {bytes} {s₀} {h₀} {s} {h} all-bytes a {j} d ok {room} {w} {room'} l b =
    let a' = rw d at a in
    let m = was_read (reading bytes s₀ h₀) (said_none a.answered d) in
    let q = rooms a' in
    let ok' = rw (q.speeds_are, q.holds_are, a'.the_vehicle) at ok in
    let b' = rw (q.speeds_are, q.holds_are, a'.the_vehicle, a'.the_version) at b in
    let t = read_writes_back bytes all-bytes (length s₀) (length h₀) m.1 ok' room l in
    rw t.1 at (put_whole b' t.0)
