-- The contracts of the reader's public functions as the check reads them: they ask nothing, and what `read` says of the rooms past what it fills.
use Rattle.std.specs.Prelude.{Result}
use Rattle.std.specs.Result.{result_unwrap_or}
use Rattle.rules.proofs.Offered.{ℕ, ◌≤◌, ◌≡◌, ap, ◌∙◌, List, arith, length, at, job_of, job_even}
use Rattle.rules.proofs.Offered.{filled_beyond}
use Rattle.rules.specs.Determined.{AsksNothing, Promises}
use Rattle.rules.specs.declared.Refusal.{Refusal}
use Rattle.reading.specs.declared.Reading.{Reading}
use Rattle.reading.specs.Reader.{no_reading, reading, ReadAs}
use Rattle.reading.proofs.groups.group_at.Kinds as group-at-kinds
use Rattle.reading.proofs.groups.group_at.Reads as group-at-reads
use Rattle.reading.proofs.vehicle.blank.Kinds as blank-kinds
use Rattle.reading.proofs.vehicle.blank.Reads as blank-reads
use Rattle.reading.proofs.read.Kinds as read-kinds
use Rattle.reading.proofs.read.Reads as read-reads

-- demand 1: every list of bytes and all rooms get an answer, for neither asks anything of its caller
pub read_asks_nothing : AsksNothing read-kinds.ps read-reads.Asked
read_asks_nothing κs a = tt

pub group_asks_nothing : AsksNothing group-at-kinds.ps group-at-reads.Asked
group_asks_nothing κs a = tt

pub blank_asks_nothing : AsksNothing blank-kinds.ps blank-reads.Asked
blank_asks_nothing κs a = tt

-- what the contract of `read` says
pub read-says : Promises read-kinds.ps read-kinds.r read-reads.Asked read-reads.Learnt
    (λ κs a z ws. ReadAs (a.0.now) (a.1.0.now) (a.1.1.0.now) z ws.1.0 ws.1.1.0)
read-says κs a asked z ws p = p

-- document 01: "room beyond is untouched": past as many places as the sample count, which is 0 in a refusal
pub read_beyond : {job speeds holds : List ℕ} {r : Result Reading Refusal} {speeds' holds' : List ℕ} → ReadAs job speeds holds r speeds' holds'
    → (i : ℕ) → (result_unwrap_or r no_reading).count ≤ i → (at speeds' i ≡ at speeds i) × (at holds' i ≡ at holds i)
unfolding reading
read_beyond {job} {speeds} {holds} R i l =
    let j = job_of (reading job speeds holds) in
    let e : length j.holds ≡ length j.speeds = (job_even job (length speeds) (length holds)).even in
    let n = R.the_count in
    let v : length j.speeds ≤ i = omega arith in
    let h : length j.holds ≤ i = omega arith in (
      ap (λ (m : List ℕ). at m i) R.speeds_left ∙ filled_beyond speeds j.speeds i v,
      ap (λ (m : List ℕ). at m i) R.holds_left ∙ filled_beyond holds j.holds i h,
    )
