-- The job file and the card program, with requests One and Ten.
use Rattle.rules.proofs.Base.{ℕ, suc, ◌≤◌, ◌<◌, ◌≡◌, refl, none, List, ◌++◌, length, take, drop, Vehicle}
use Rattle.rules.specs.Units.{longest}
use Rattle.rules.specs.Job.{Job, filled, job_read, version, vehicle}
use Rattle.rules.specs.Text.{printed, refusal_text, program_room}
use Rattle.rules.specs.Groups.{got, form, group}
use Rattle.rules.specs.Vocabulary.{OneForm, Bytes, most_groups, longest_job, job_fault, job_from, cleared}
use Rattle.rules.specs.Groups.{got}
use Rattle.rules.specs.Write.{job_bytes, write_fault, write_room}
use Rattle.rules.proofs.Base.{sym, ◌∙◌, eq-eqb}
use Rattle.rules.specs.Words.{◌and◌}
use Rattle.rules.specs.Refusals.{room_fault, work_fault}
use Rattle.rules.proofs.Laws.Checks.{left_none, accepted, rooms_in, none_orelse, orelse_none, none_when, gears_last}
use Rattle.rules.proofs.Laws.Groups.{one_form}
use Rattle.rules.proofs.Laws.Writes.{writable, reads_written, writes_read, write_none, none_write, read_passes}
use Rattle.rules.proofs.Laws.Long.{long_job, too_long, two_bytes_most}

-- ---- 8. Groups: every value 0 to 65,535 has exactly one form that is accepted, and reading that form gives the value and the place after it

pub one-form_each : (n : ℕ) → n ≤ 65535 → OneForm n
one-form_each = one_form

-- ---- 9. The job, both ways

-- what is written at the start of the room reads back as the same job, its version too, in rooms that are long enough; places of the vehicle that are no part
-- of a job as 0
pub written_reads_back : (v : ℕ) (car : Vehicle) (vs hs room : List ℕ) → write_fault v car vs hs room ≡ none → (a b : ℕ) → length vs ≤ a → length vs ≤ b
    → let bytes = job_bytes v car vs hs in
    (write_room v car vs hs room ≡ bytes ++ drop (length bytes) room) × (job_read bytes a b ≡ got (job_from v (cleared car) vs hs) (length bytes))
unfolding write_room filled
written_reads_back v car vs hs room e a b x y = (left_none _ _ e, reads_written v car vs hs (writable v car vs hs (write_none v car vs hs room e).0) a b x y)

-- a job that is read and passes checks 1 to 9 is written, in its own version, as the same bytes, in room that is long enough
pub read_writes_back : (bytes : List ℕ) → Bytes bytes → (a b : ℕ) {j : Job} {end : ℕ} → job_read bytes a b ≡ got j end
    → job_fault j.vehicle j.speeds j.holds ≡ none → (room : List ℕ) → length bytes ≤ length room
    → (write_fault j.version j.vehicle j.speeds j.holds room ≡ none) × (job_bytes j.version j.vehicle j.speeds j.holds ≡ bytes)
read_writes_back bytes h a b {j} e ok room l =
    let same = writes_read bytes h a b e in
    (none_write j.version j.vehicle j.speeds j.holds room (read_passes bytes a b e ok) (rw same l), same)

-- ---- The card program: of an input that is longer than the longest job that it has room for, as many bytes as that job has and one more say all that
-- is printed

pub long_input : (bytes : List ℕ) → longest_job program_room < length bytes → printed (take (suc (longest_job program_room)) bytes) ≡ printed bytes
long_input = long_job

-- and that is 37,513 bytes
pub longest_job_is : suc (longest_job program_room) ≡ 37513
unfolding longest_job most_groups program_room
longest_job_is = refl

-- Request Ten: where the version, the vehicle and then the sample count are read, and the count is more than it has room for, it prints "refused 1 at 0",
-- be the count over the longest trace or not
pub too_long_printed : (bytes : List ℕ) {v : ℕ} {car : Vehicle} {i j k n : ℕ} → version.read bytes 0 ≡ got v i → (vehicle v).read bytes i ≡ got car j
    → group bytes j ≡ got n k
    → program_room < n → printed bytes ≡ refusal_text (record { no = 1; spot = 0 })
too_long_printed = too_long

-- a count or a hold's second below the longest trace takes at most two bytes, and the count of the longest trace three
pub two_bytes : (n : ℕ) → n < longest → length (form n) ≤ 2
unfolding longest
two_bytes = two_bytes_most

pub three_bytes : length (form longest) ≡ 3
unfolding form longest
three_bytes = refl

-- what the working accepts passes checks 1 to 9, so that it is written as it was read
pub worked_passes : (car : Vehicle) (vs hs old : List ℕ) → work_fault car vs hs old ≡ none → job_fault car vs hs ≡ none
unfolding job_fault room_fault ◌and◌
worked_passes car vs hs old e =
    let A = accepted car vs hs old e in
    let n = (rooms_in vs hs old A.room).0 in
    none_orelse _ _ A.trace ∙ none_orelse _ _ (none_when 2 _ 0 (rw (eq-eqb (length hs) (length vs) n))) ∙ none_orelse _ _ A.vehicle
    ∙ (orelse_none _ _ (sym (gears_last car vs hs 0 (length vs)) ∙ A.span)).0
