-- What the reader's public functions answer, as document 01 has it.
use Rattle.std.specs.Prelude.{ℕ, ◌≡◌, List, length, Result, Ok, Err}
use Rattle.std.specs.Result.{result_unwrap_or}
use Rattle.rules.specs.declared.Vehicle.{Vehicle}
use Rattle.rules.specs.declared.Refusal.{Refusal}
use Rattle.rules.specs.Refusals.{numbered, fault, said}
use Rattle.rules.specs.Groups.{Read, got, refused}
use Rattle.rules.specs.Job.{Job, job_read, read_fault, job_of, filled}
use Rattle.reading.specs.declared.Reading.{Reading}

-- what an answer says of what was read: the value, and the place after it
abbrev pub came : {A : Type 0} → Result (A × ℕ) Refusal → Read A
came (Ok x) = got x.0 x.1
came (Err f) = refused (fault f)

-- what is read of a job into these rooms
unfoldable pub reading : List ℕ → List ℕ → List ℕ → Read Job
reading job speeds holds = job_read job (length speeds) (length holds)

-- the vehicle of a job that was refused, whatever the refusal
abbrev pub blank : Vehicle
blank = (job_of (refused (numbered 0 0))).vehicle

-- what is read of a job that was refused
abbrev pub no_reading : Reading
no_reading = record { version = 0; vehicle = blank; count = 0 }

-- the answer r, and the rooms as they are left, are what is read: in a refusal version 0, a blank vehicle, no seconds, and rooms as they were
pub record ReadAs (job speeds holds : List ℕ) (r : Result Reading Refusal) (speeds' holds' : List ℕ) : Type 0 where
  pub answered : said r ≡ read_fault (reading job speeds holds)
  pub the_version : (result_unwrap_or r no_reading).version ≡ (job_of (reading job speeds holds)).version
  pub the_vehicle : (result_unwrap_or r no_reading).vehicle ≡ (job_of (reading job speeds holds)).vehicle
  pub the_count : (result_unwrap_or r no_reading).count ≡ length (job_of (reading job speeds holds)).speeds
  pub speeds_left : speeds' ≡ filled speeds (job_of (reading job speeds holds)).speeds
  pub holds_left : holds' ≡ filled holds (job_of (reading job speeds holds)).holds
