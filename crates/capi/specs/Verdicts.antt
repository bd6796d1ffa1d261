-- What the C functions answer: the refusal's number and place, number 0 where there is none.
use Rattle.std.specs.Prelude.{ℕ, ◌≡◌, List, length, pos}
use Rattle.rules.specs.Words.{Option, none, some}
use Rattle.rules.specs.Refusals.{Fault, left}
use Rattle.rules.specs.declared.Vehicle.{Vehicle}
use Rattle.rules.specs.Job.{job_read, read_fault, job_of, filled}
use Rattle.rules.specs.Write.{job_bytes, write_fault, write_room}
use Rattle.exports.specs.Export.{export_read, figures_of}
use Rattle.capi.specs.declared.Verdict.{Verdict}
use Rattle.capi.specs.declared.JobAnswer.{JobAnswer}
use Rattle.capi.specs.declared.WriteAnswer.{WriteAnswer}
use Rattle.capi.specs.declared.ExportAnswer.{ExportAnswer}

-- a refusal as a C caller is told it
unfoldable pub as_verdict : Option Fault → Verdict
as_verdict none = record { number = 0; place = 0 }
as_verdict (some f) = record { number = f.no; place = f.spot }

-- the answer r, and the rooms as they are left, are what is read
pub record JobRead (job speeds holds : List ℕ) (r : JobAnswer) (speeds' holds' : List ℕ) : Type 0 where
  pub answered : r.verdict ≡ as_verdict (read_fault (job_read job (length speeds) (length holds)))
  pub the_version : r.version ≡ (job_of (job_read job (length speeds) (length holds))).version
  pub the_vehicle : r.vehicle ≡ (job_of (job_read job (length speeds) (length holds))).vehicle
  pub the_count : r.count ≡ length (job_of (job_read job (length speeds) (length holds))).speeds
  pub speeds_left : speeds' ≡ filled speeds (job_of (job_read job (length speeds) (length holds))).speeds
  pub holds_left : holds' ≡ filled holds (job_of (job_read job (length speeds) (length holds))).holds

-- the answer r, and the room as it is left, are what is written
pub record JobWritten (v : ℕ) (car : Vehicle) (vs hs room : List ℕ) (r : WriteAnswer) (room' : List ℕ) : Type 0 where
  pub answered : r.verdict ≡ as_verdict (write_fault v car vs hs room)
  pub the_length : r.length ≡ left (write_fault v car vs hs room) 0 (length (job_bytes v car vs hs))
  pub room_left : room' ≡ write_room v car vs hs room

-- the answer r is what is read of the export; all 0 where it is refused
pub record ExportRead (bytes : List ℕ) (r : ExportAnswer) : Type 0 where
  pub answered : r.verdict ≡ as_verdict (read_fault (export_read bytes 0))
  pub the_f0 : pos r.f0 ≡ (figures_of (export_read bytes 0)).f0
  pub the_f1 : r.f1 ≡ (figures_of (export_read bytes 0)).f1
  pub the_f2 : pos r.f2 ≡ (figures_of (export_read bytes 0)).f2
  pub the_tm : pos r.tm ≡ (figures_of (export_read bytes 0)).tm
