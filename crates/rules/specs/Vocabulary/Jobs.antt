-- Words of the theorems on the job file.
use Rattle.std.specs.Prelude.{ℕ, ◌+◌, ◌*◌, ◌<◌, ◌≡◌, List, ◌++◌, length}
use Rattle.rules.specs.Words.{Option, at}
use Rattle.rules.specs.declared.Vehicle.{Vehicle}
use Rattle.rules.specs.Units.{most_gears, most_points}
use Rattle.rules.specs.Refusals.{Fault, ◌orelse◌, trace_fault, room_fault, vehicle_fault, seconds_fault}
use Rattle.rules.specs.Groups.{got, group, form}
use Rattle.rules.specs.Job.{Job, vehicle_of, parts_of}

-- ---- the job

-- the job of a version, a vehicle, speeds and holds
unfoldable pub job_from : ℕ → Vehicle → List ℕ → List ℕ → Job
job_from v car vs hs = record { version = v; vehicle = car; speeds = vs; holds = hs }

-- the vehicle with its places past the gears and past the points as 0
unfoldable pub cleared : Vehicle → Vehicle
cleared car = vehicle_of (parts_of car)

-- 1 to 9, as in the working
unfoldable pub job_fault : Vehicle → List ℕ → List ℕ → Option Fault
job_fault car vs hs = trace_fault vs orelse room_fault vs hs hs orelse vehicle_fault car orelse seconds_fault car vs hs 0 (length vs)

-- a job of so many seconds has at most so many groups: version; profile; ng and ratios; eight numbers; point count, n, p and m; sample count and speeds;
-- hold count, second and gear
unfoldable pub most_groups : ℕ → ℕ
most_groups seconds = 1 + 1 + (1 + most_gears) + 8 + (1 + 3 * most_points) + (1 + seconds) + (1 + 2 * seconds)

-- and a group at most three bytes
unfoldable pub longest_job : ℕ → ℕ
longest_job seconds = 3 * most_groups seconds

-- ---- groups

-- a list of bytes
pub record Bytes (l : List ℕ) : Type 0 where
  pub each : (k : ℕ) → at l k < 256

-- the value has exactly one form that is accepted: bytes read as a value are its form and no others,
-- and its form, wherever it stands, is read as the value with the place after it
pub record OneForm (n : ℕ) : Type 0 where
  pub bytes : Bytes (form n)
  pub accepted : (before after : List ℕ) → group (before ++ (form n ++ after)) (length before) ≡ got n (length before + length (form n))
  pub no_other : (before written after : List ℕ) → Bytes (before ++ (written ++ after))
      → group (before ++ (written ++ after)) (length before) ≡ got n (length before + length written) → written ≡ form n
