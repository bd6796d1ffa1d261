-- Demand 2 of the C functions, in both directions: what gearcard_write has written gearcard_read reads as the same job, and what gearcard_read has read
-- gearcard_write writes as the same bytes. Over the demand on the reader and the writer, in the Demands of `writing`.
use Rattle.std.specs.Prelude.{Result, Ok}
use Rattle.std.specs.Result.{result_unwrap_or}
use Rattle.rules.proofs.Offered.{ℕ, ◌≤◌, ◌≡◌, ap, sym, ◌∙◌, Option, none, List, length, take, Fault, said, filled, cleared, Bytes, job_fault, Told}
use Rattle.rules.proofs.Offered.{said_once, job-told, write-told}
use Rattle.rules.proofs.Theorems.Jobs.{worked_passes}
use Rattle.rules.specs.declared.Vehicle.{Vehicle}
use Rattle.rules.specs.declared.Refusal.{Refusal}
use Rattle.reading.specs.declared.Reading.{Reading}
use Rattle.reading.specs.Reader.{reading}
use Rattle.writing.proofs.Demands as writing-says
use Rattle.capi.specs.declared.Verdict.{Verdict}
use Rattle.capi.specs.declared.JobAnswer.{JobAnswer}
use Rattle.capi.specs.declared.WriteAnswer.{WriteAnswer}
use Rattle.capi.specs.Verdicts.{JobRead, JobWritten}
use Rattle.capi.proofs.Demands.{CWorked, demand_1_number_0}
use Rattle.capi.proofs.Answers.{brings, reading_of, as_read, as_written, read-number_0, write-number_0}

-- what refuses nothing brings its value, and what brings a value refuses nothing
brought : {A : Type 0} {q : Option Fault} (t : Told q) (x : A) → q ≡ none → brings t.answer x ≡ Ok x
unfolding said
brought t x e = rw (said_once t.answer (Ok tt) (t.says ∙ e))

brought_none : {A : Type 0} {q : Option Fault} {r : Result A Refusal} {x : A} → said r ≡ q → r ≡ Ok x → q ≡ none
unfolding said
brought_none s e = sym s ∙ ap said e

-- and what it brings is its value
brought_value : {A : Type 0} {q : Option Fault} (t : Told q) (x : A) {y : A} → q ≡ none → brings t.answer x ≡ Ok y → x ≡ y
brought_value {A} t x e b = ap (λ (r : Result A Refusal). result_unwrap_or r x) (sym (brought t x e) ∙ b)

-- a job that was read: number 0, this version and vehicle, these speeds and holds at the start of the rooms
pub record CSameJob (v : ℕ) (car : Vehicle) (vs hs s₀ h₀ : List ℕ) (r : JobAnswer) (s h : List ℕ) : Type 0 where
  pub number_0 : r.verdict.number ≡ 0
  pub version : r.version ≡ v
  pub vehicle : r.vehicle ≡ cleared car
  pub count : r.count ≡ length vs
  pub speeds : s ≡ filled s₀ vs
  pub holds : h ≡ filled h₀ hs

-- bytes that were written: number 0, so many, at the start of the room
pub record CSameBytes (bytes room : List ℕ) (w : WriteAnswer) (room' : List ℕ) : Type 0 where
  pub number_0 : w.verdict.number ≡ 0
  pub count : w.length ≡ length bytes
  pub start : room' ≡ filled room bytes

-- what is written is read, from the bytes that were written into rooms as long as the trace at least, as the same job
pub demand_2_reads_back : {v : ℕ} {car : Vehicle} {vs hs room : List ℕ} {w : WriteAnswer} {room' : List ℕ}
    → JobWritten v car vs hs room w room' → w.verdict.number ≡ 0
    → {s₀ h₀ s h : List ℕ} {r : JobAnswer} → length vs ≤ length s₀ → length vs ≤ length h₀ → JobRead (take w.length room') s₀ h₀ r s h
    → CSameJob v car vs hs s₀ h₀ r s h
unfolding reading
demand_2_reads_back {v} {car} {vs} {hs} {room} {w} {room'} W n {s₀} {h₀} {r = r} x y R =
    let told = job-told (take w.length room') (length s₀) (length h₀) in
    let A = writing-says.demand_2_reads_back (as_written W) (brought (write-told v car vs hs room) w.length ((write-number_0 W).0 n)) x y (as_read R) in
    let ok = brought_none (as_read R).answered A.read in
    let same = brought_value told (reading_of r) ok A.read in
    record {
      number_0 = (read-number_0 R).1 ok;
      version = ap (λ (j : Reading). j.version) same;
      vehicle = ap (λ (j : Reading). j.vehicle) same;
      count = ap (λ (j : Reading). j.count) same;
      speeds = A.speeds;
      holds = A.holds;
    }

module _ {bytes s₀ h₀ s h : List ℕ} {r : JobAnswer} (R : JobRead bytes s₀ h₀ r s h) (all-bytes : Bytes bytes) (n : r.verdict.number ≡ 0) where
  -- what is read and passes checks 1 to 9 is written, in its own version and in room that is long enough, as the same bytes
  pub demand_2_writes_back : job_fault r.vehicle (take r.count s) (take r.count h) ≡ none
      → {room : List ℕ} {w : WriteAnswer} {room' : List ℕ} → length bytes ≤ length room
      → JobWritten r.version r.vehicle (take r.count s) (take r.count h) room w room' → CSameBytes bytes room w room'
  demand_2_writes_back ok {room} l W =
      let told = write-told r.version r.vehicle (take r.count s) (take r.count h) room in
      let was_read = brought (job-told bytes (length s₀) (length h₀)) (reading_of r) ((read-number_0 R).0 n) in
      let A = writing-says.demand_2_writes_back (as_read R) all-bytes was_read ok l (as_written W) in
      let whole = brought_none (as_written W).answered A.written in
      record { number_0 = (write-number_0 W).1 whole; count = brought_value told _ whole A.written; start = A.start }

  -- so what gearcard_work accepts
  pub demand_2_writes_worked : {old : List ℕ} {z : Verdict} {new : List ℕ}
      → CWorked r.vehicle (take r.count s) (take r.count h) old z new → z.number ≡ 0
      → {room : List ℕ} {w : WriteAnswer} {room' : List ℕ} → length bytes ≤ length room
      → JobWritten r.version r.vehicle (take r.count s) (take r.count h) room w room' → CSameBytes bytes room w room'
  demand_2_writes_worked {old} C k = demand_2_writes_back (worked_passes r.vehicle (take r.count s) (take r.count h) old ((demand_1_number_0 C).0 k))
