-- What the writer promises, and what its own functions do: bytes put into the lent room one after another.
use Rattle.std.specs.Prelude.{ℕ, ◌≤◌, ◌<◌, ◌≡◌, not, List, [], ◌++◌, length, leb, eqb, if◌then◌else◌, Result}
use Rattle.std.specs.Result.{result_unwrap_or}
use Rattle.rules.specs.Words.{Option, within, at}
use Rattle.rules.specs.declared.Vehicle.{Vehicle}
use Rattle.rules.specs.declared.Refusal.{Refusal}
use Rattle.rules.specs.Units.{newest, bounds, first_failed}
use Rattle.rules.specs.Refusals.{Fault, said, refuse_at, ◌orelse◌, when, trace_fault, room_fault, left}
use Rattle.rules.specs.Groups.{form}
use Rattle.rules.specs.Forms.{Form, value, only_if, ◌then◌, many}
use Rattle.rules.specs.Job.{point}
use Rattle.rules.specs.Write.{job_bytes, write_fault, write_room}

-- values in a row, alone and behind their count, and pairs of values, as bytes
abbrev pub values_bytes : List ℕ → List ℕ
values_bytes vs = (many value (length vs)).write vs

abbrev pub counted_bytes : List ℕ → List ℕ
counted_bytes vs = form (length vs) ++ values_bytes vs

unfoldable pub pair : Form (ℕ × ℕ)
pair = value then λ a. value

abbrev pub pairs_bytes : List (ℕ × ℕ) → List ℕ
pairs_bytes l = (many pair (length l)).write l

-- a value that versions have from the first so numbered on; before, it is 0 and no group
abbrev pub since : ℕ → ℕ → Form ℕ
since first v = only_if (leb first v) 0 value

-- margins in a row, from version 2 on; and points in a row
abbrev pub margin : ℕ → Form ℕ
margin v = since 2 v

abbrev pub margins_bytes : ℕ → List ℕ → List ℕ
margins_bytes v ms = (many (margin v) (length ms)).write ms

abbrev pub points_bytes : ℕ → List (ℕ × (ℕ × ℕ)) → List ℕ
points_bytes v l = (many (point v) (length l)).write l

-- second and gear of a hold, nothing where there is none
unfoldable pub hold_bytes : ℕ → ℕ → List ℕ
hold_bytes s g = if eqb g 0 then [] else form s ++ form g

-- holds whose gears have one byte each, at seconds of at most two
pub record Light (hs : List ℕ) : Type 0 where
  pub seconds : length hs ≤ 16384
  pub gears : (i : ℕ) → i < length hs → at hs i < 128

-- values of at most two bytes each
pub record Short (vs : List ℕ) : Type 0 where
  pub each : (i : ℕ) → i < length vs → at vs i < 16384

-- 14, and 1 to 3 in a version: the checks before those of the seconds
unfoldable pub told_fault : ℕ → Vehicle → List ℕ → List ℕ → Option Fault
told_fault v car vs hs =
    refuse_at 14 (when (not (within 1 newest v)) 0) orelse trace_fault vs orelse room_fault vs hs hs orelse refuse_at 3 (first_failed 1 (bounds v car))

-- the answer r, and the room as it is left, are what is written: in a refusal no bytes, and the room as it was
pub record WriteAs (v : ℕ) (car : Vehicle) (vs hs room : List ℕ) (r : Result ℕ Refusal) (room' : List ℕ) : Type 0 where
  pub answered : said r ≡ write_fault v car vs hs room
  pub the_length : result_unwrap_or r 0 ≡ left (write_fault v car vs hs room) 0 (length (job_bytes v car vs hs))
  pub room_left : room' ≡ write_room v car vs hs room
