-- The writer's ends: what is answered, and how the room is left.
use Rattle.std.specs.Prelude.{Ok, Err}
use Rattle.std.specs.Result.{result_map_both}
use Rattle.rules.proofs.Offered.{ℕ, ◌<◌, zero-add, arith, ◌≡◌, ◌∙◌, none, some, List, length, sets-eq, lt-ltb, le-ltb, fault, said}
use Rattle.rules.proofs.Offered.{refuse_at, ◌orelse◌, when, left, filled, job_bytes, checks_fault, write_fault, write_room, none_when}
use Rattle.rules.specs.declared.Vehicle.{Vehicle}
use Rattle.rules.specs.declared.Refusal.{Refusal}
use Rattle.rules.specs.declared.Refusal.TheVariants.{RoomShort}
use Rattle.rules.specs.Refusals.{Answer}
use Rattle.reading.specs.Lent.{Put}
use Rattle.writing.specs.Writing.{WriteAs}

module _ (v : ℕ) (car : Vehicle) (vs hs room : List ℕ) where
  -- a refusal writes nothing
  pub refused_as : {q : Refusal} → write_fault v car vs hs room ≡ some (fault q) → WriteAs v car vs hs room (Err q) room
  unfolding said write_room left
  refused_as e = record { answered = rw e; the_length = rw e; room_left = rw e }

  -- 14, or one of the checks 1 to 9, refuses
  pub checks_refuse : {q : Refusal} → said {A = Unit {0}} (Err q) ≡ checks_fault v car vs hs → WriteAs v car vs hs room (Err q) room
  unfolding said write_fault ◌orelse◌
  checks_refuse s = refused_as (rw (← s))

  module _ (passed : checks_fault v car vs hs ≡ none) where
    -- the room is too short
    pub room_refuses : {need : ℕ} → need ≡ length (job_bytes v car vs hs) → length room < need → WriteAs v car vs hs room (Err (RoomShort need)) room
    unfolding said write_fault ◌orelse◌ refuse_at when
    room_refuses e h =
        let t = lt-ltb (length room) (length (job_bytes v car vs hs)) (omega arith) in
        refused_as (rw (passed, t, e))

    -- the job is put
    pub written_as : {room' : List ℕ} {n : ℕ} → Put (job_bytes v car vs hs) room 0 n room' → WriteAs v car vs hs room (Ok n) room'
    unfolding said write_fault write_room ◌orelse◌ left filled
    written_as p =
        let bytes = job_bytes v car vs hs in
        let i = p.inside in
        let n = p.after in
        let t = none_when 17 _ (length bytes) (le-ltb (length room) (length bytes) (omega arith)) in
        record {
          answered = rw (passed, t);
          the_length = rw (passed, t) (omega arith);
          room_left = rw (passed, t) (p.now_is ∙ (sets-eq bytes room 0 (omega arith) ∙ rw zero-add));
        }

-- an answer that brings nothing, and a length beside it, that say what is written
pub beside_as : (v : ℕ) (car : Vehicle) (vs hs room : List ℕ) (a : Answer) (n : ℕ) {room' : List ℕ} → said a ≡ write_fault v car vs hs room
    → n ≡ left (write_fault v car vs hs room) 0 (length (job_bytes v car vs hs)) → room' ≡ write_room v car vs hs room
    → WriteAs v car vs hs room (result_map_both (λ x. n) (λ f. f) a) room'
unfolding said left
beside_as v car vs hs room (Ok x) n e l r = record { answered = e; the_length = l; room_left = r }
beside_as v car vs hs room (Err f) n e l r = record { answered = e; the_length = rw (← e); room_left = r }
