-- The contract of `write` as the check reads it: it asks nothing, and what it says of the room past what it writes.
use Rattle.std.specs.Prelude.{Result}
use Rattle.std.specs.Result.{result_unwrap_or}
use Rattle.rules.proofs.Offered.{ℕ, ◌≤◌, ◌≡◌, ap, ◌∙◌, List, at, job_bytes, write_fault, write_room}
use Rattle.rules.proofs.Offered.{left_beyond}
use Rattle.rules.specs.Determined.{AsksNothing, Promises}
use Rattle.rules.specs.declared.Vehicle.{Vehicle}
use Rattle.rules.specs.declared.Refusal.{Refusal}
use Rattle.writing.specs.Writing.{WriteAs}
use Rattle.writing.proofs.writer.write.Kinds as write-kinds
use Rattle.writing.proofs.writer.write.Reads as write-reads

-- demand 1: every version, vehicle, trace, holds and room get an answer, for `write` asks nothing of its caller
pub write_asks_nothing : AsksNothing write-kinds.ps write-reads.Asked
write_asks_nothing κs a = tt

-- what its contract says
pub write-says : Promises write-kinds.ps write-kinds.r write-reads.Asked write-reads.Learnt
    (λ κs a z ws. WriteAs a.0 a.1.0 (a.1.1.0.now) (a.1.1.1.0.now) (a.1.1.1.1.0.now) z ws.1.1.1.1.0)
write-says κs a asked z ws p = p

-- request One: "room beyond is untouched": past as many places as bytes were written, none in a refusal
pub write_beyond : {v : ℕ} {car : Vehicle} {vs hs room : List ℕ} {w : Result ℕ Refusal} {room' : List ℕ} → WriteAs v car vs hs room w room'
    → (i : ℕ) → result_unwrap_or w 0 ≤ i → at room' i ≡ at room i
unfolding write_room
write_beyond {v} {car} {vs} {hs} {room} W i l =
    ap (λ (m : List ℕ). at m i) W.room_left ∙ left_beyond (write_fault v car vs hs room) room (job_bytes v car vs hs) i (rw (← W.the_length) l)
